use Rattle.std.proofs.Common.{ap}
use Rattle.java_core.specs.Programs.{program_of}
use Rattle.run_state.specs.Turns.{to_slot}
use Rattle.run_state.specs.Run.{plain_of, state_of}
use Rattle.run_state.proofs.Turned.{turned_in}
use Rattle.run_state.proofs.NewCells.{object_made}
use Rattle.run_state.proofs.arrays.add_object.Goals as goal

pub returns : goal.returns
returns c =
    let m = c.args.m.now in
    turned_in _ _ _ _ _ _ _ _ _ c.keep.ensures (ap program_of c.make.ensures.same)
    (λ go. object_made (plain_of m) (state_of m) (to_slot m c.args.to go) c.args.number c.in_ok-at.at c.make.new.heap c.args.class
    c.in_ok-at.ensures.place c.in_ok-at.ensures.cells)
