use Rattle.std.proofs.Common.{sym, ◌∙◌}
use Rattle.run_state.proofs.Turned.{turned}
use Rattle.run_state.proofs.Branches.{some_is}
use Rattle.run_machine.proofs.effects.keep_element.Goals as goal

pub returns-in-Some-read-2 : goal.returns-in-Some-read-2
returns-in-Some-read-2 c =
    λ T. turned _ _ _ _ _ _ _ _ c.put_element.ensures
    (λ go. some_is _ _ _ _ (sym c.in-Some.ensures) ∙ some_is _ _ _ _ (sym c.in-Some-read.ensures) ∙ some_is _ _ _ _ (sym c.in-Some-read-2.ensures))
