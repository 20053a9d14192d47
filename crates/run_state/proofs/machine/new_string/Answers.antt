use Rattle.run_state.specs.Turns.{to_slot}
use Rattle.run_state.specs.Run.{state_of}
use Rattle.run_state.proofs.Turned.{turned}
use Rattle.run_state.proofs.Branches.{string_is}
use Rattle.run_state.proofs.machine.new_string.Goals as goal

pub returns : goal.returns
returns c =
    let m = c.args.m.now in
    turned _ _ _ _ _ _ _ _ c.keep.ensures
    (λ go. string_is c.args.units.items (state_of m)
    (to_slot m c.args.to go) c.in_ok-at.at c.string.new.self c.in_ok-at.ensures.place c.in_ok-at.ensures.strings)
