use Rattle.std.proofs.Common.{ap, sym, ◌∙◌}
use Rattle.run_state.specs.Turns.{to_next}
use Rattle.run_state.specs.Run.{state_of}
use Rattle.run_state.proofs.Turned.{turned}
use Rattle.run_state.proofs.Branches.{some_is}
use Rattle.std.specs.Option.{option_map}
use Rattle.java_meaning.specs.Meaning.{print_units}
use Rattle.run_machine.proofs.effects.show.Goals as goal

pub returns-in-Some-text : goal.returns-in-Some-text
returns-in-Some-text c =
    let m = c.args.m.now in
    λ T. turned _ _ _ _ _ _ _ _ c.print_all.ensures (λ go. some_is _ _ _ _ (sym c.in-Some.ensures)
    ∙ some_is _ c.in-Some-text.units.items _ _ (sym c.in_ok-text-in-Some.ensures.value ∙ ap (option_map (λ u. u.items)) c.in-Some-text.is)
    ∙ ap (λ l. print_units c.args.newline l (state_of m) (to_next m go)) (sym c.deref.ensures.value))
