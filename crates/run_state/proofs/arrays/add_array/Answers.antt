use Rattle.std.proofs.Common.{◌-◌, refl, arith}
use Rattle.run_state.specs.Turns.{to_slot}
use Rattle.run_state.specs.Run.{plain_of, state_of}
use Rattle.run_state.proofs.Turned.{stepped}
use Rattle.run_state.proofs.NewCells.{array_made}
use Rattle.run_state.proofs.arrays.add_array.Goals as goal

pub returns : goal.returns
returns c =
    let m = c.args.m.now in
    λ u h. stepped _ _ _ _ _ _ _ (m.left - 1) _ _ c.keep.ensures (omega (arith, c.if-m-eq0.false)) refl
    (λ go. array_made (plain_of m) (state_of m) (to_slot m c.args.to go) (m.left - 1) c.args.number c.in_ok-at.at c.array.new.self
    (omega (arith, c.if-m-eq0.false)) c.in_ok-at.ensures.place c.args.ty u c.args.count h c.in_ok-at.ensures.cells)
