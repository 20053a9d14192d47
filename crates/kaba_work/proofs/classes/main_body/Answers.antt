use Rattle.std.proofs.Common.{◌++◌, ap, sym, ◌∙◌, arith}
use Rattle.kaba_work.specs.Sample.{steps}
use Rattle.kaba_work.proofs.Ranges.{one_flat}
use Rattle.kaba_work.proofs.Listed.{is_main_body}
use Rattle.kaba_work.proofs.classes.main_body.Goals as goal

pub loop-i-preserved : goal.loop-i-preserved
loop-i-preserved c = c.in_ok-add_steps.ensures ∙ ap (λ xs. xs ++ steps c.loop-i.i) c.loop-i.invariant ∙ sym (one_flat steps c.loop-i.i)

pub returns : goal.returns
returns c = is_main_body c.loop-i.body.items c.loop-i.i c.args.number c.loop-i.invariant (omega arith)
