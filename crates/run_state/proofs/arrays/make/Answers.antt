use Rattle.std.proofs.Common.{◌≡◌, ◌-◌, suc, ap, refl, ◌∙◌, arith}
use Rattle.java_meaning.specs.Meaning.{new_object}
use Rattle.java_meaning.specs.Languages.{language_of}
use Rattle.run_code.specs.Machine.{nowhere, nothing, steps}
use Rattle.run_state.specs.Turns.{to_slot}
use Rattle.run_state.specs.Run.{plain_of, state_of}
use Rattle.run_state.proofs.Turned.{stepped}
use Rattle.run_state.proofs.Branches.{one_step}
use Rattle.run_state.proofs.arrays.make.Goals as goal

pub returns-then-twice : goal.returns-then-twice
returns-then-twice c =
    let m = c.args.m.now in
    let z : m.left ≡ suc (m.left - 1) = omega (arith, c.if-m-eq0.false) in
    stepped _ _ _ _ _ _ _ (m.left - 1) _ _ c.add_later.ensures z refl
    (λ go. ap (λ b. steps b (state_of m) (λ s. new_object (language_of (plain_of m)) nowhere.body nothing c.args.number c.args.class s
    (to_slot m c.args.to go))) c.if-twice.true ∙ one_step (m.left - 1) (state_of m) _ z)

pub returns-else-twice : goal.returns-else-twice
returns-else-twice c =
    let m = c.args.m.now in
    let z : m.left ≡ suc (m.left - 1) = omega (arith, c.if-m-eq0.false) in
    stepped _ _ _ _ _ _ _ (m.left - 1) _ _ c.add_object.ensures z refl
    (λ go. ap (λ b. steps b (state_of m) (λ s. new_object (language_of (plain_of m)) nowhere.body nothing c.args.number c.args.class s
    (to_slot m c.args.to go))) c.if-twice.false ∙ one_step (m.left - 1) (state_of m) _ z)
