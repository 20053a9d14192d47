use Rattle.std.proofs.Common.{◌≡◌, ◌-◌, suc, refl, arith}
use Rattle.run_state.specs.Run.{state_of}
use Rattle.run_state.proofs.Turned.{stepped}
use Rattle.run_state.proofs.Branches.{one_step}
use Rattle.run_state.proofs.arrays.add_later.Goals as goal

pub returns : goal.returns
returns c =
    let m = c.args.m.now in
    let z : m.left ≡ suc (m.left - 1) = omega (arith, c.if-m-eq0.false) in
    stepped _ _ _ _ _ _ _ (m.left - 1) _ _ c.add_object.ensures z refl (λ go. one_step (m.left - 1) (state_of m) _ z)
