use Rattle.std.proofs.Common.{sym, ◌∙◌}
use Rattle.java_core.specs.Programs.{program_of}
use Rattle.java_core.specs.Types.{call_signature}
use Rattle.java_check.proofs.callees.called.Goals as goal

pub returns-then-is_string : goal.returns-then-is_string
unfolding call_signature
returns-then-is_string c = rw (sym c.is_string.ensures.value ∙ c.if-is_string.true) (c.text_called.ensures (program_of c.args.p.now))
