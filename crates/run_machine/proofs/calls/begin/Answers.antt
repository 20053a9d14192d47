use Rattle.std.proofs.Common.{◌+◌, map, ap, ◌∙◌, arith}
use Rattle.java_heap.specs.Seen.{value_of}
use Rattle.run_code.specs.Seen.{entry_of}
use Rattle.run_code.specs.Machine.{put_all}
use Rattle.run_state.proofs.Moves.{began}
use Rattle.run_machine.proofs.calls.begin.Goals as goal

pub returns : goal.returns
returns c =
    began c.args.m.now c.args.frame.slot c.args.frame.many (entry_of c.args.entry.now) c.in-Some.base c.put_all.new.self c.push.new.self
    (omega (arith, c.in-Some.ensures))
    (c.in_ok-put_all.ensures ∙ ap (λ l. put_all l (c.in-Some.base + 1 + c.args.frame.many)
    (map value_of c.args.entry.now.rest.items)) c.in_ok-fit.ensures) c.in_ok-push.ensures
