use Rattle.std.proofs.Common.{◌+◌, ap, sym, ◌∙◌}
use Rattle.run_code.specs.Machine.{goes}
use Rattle.run_state.specs.Turns.{to_next}
use Rattle.run_state.specs.Run.{state_of, config_of}
use Rattle.run_state.proofs.Turned.{turned}
use Rattle.run_state.proofs.Branches.{some_is}
use Rattle.std.specs.Prelude.{slice_get}
use Rattle.java_heap.specs.Seen.{value_of}
use Rattle.java_meaning.specs.Moment.{with_some}
use Rattle.java_meaning.specs.Meaning.{with_cell, set_value}
use Rattle.run_state.proofs.Branches.{keeps_same}
use Rattle.run_machine.proofs.effects.save.Goals as goal

pub returns-in-Some-read : goal.returns-in-Some-read
returns-in-Some-read c =
    let m = c.args.m.now in
    λ T. turned _ _ _ _ _ _ _ _ c.done.ensures (λ go. some_is _ _ _ _ (sym c.in-Some.ensures) ∙ some_is _ _ _ _ (sym c.in-Some-read.ensures)
    ∙ ap (λ x. with_cell (value_of c.in-Some.object) (state_of m)
    (λ a d. with_some (slice_get d.values c.args.place) (state_of m)
    (λ old. go (goes (config_of m) (m.pc + 1) (set_value a d c.args.place x (state_of m)))))) (sym c.as_int.ensures)
    ∙ c.saved-kept.ensures (state_of m) (to_next m go)
    ∙ keeps_same c.saved-kept.result m.heap c.saved-kept.new.heap (state_of m) _)
