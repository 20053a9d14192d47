use Rattle.std.proofs.Common.{◌≡◌, ⊎_elim, ◌<◌, length, get_or, subst, arith}
use Rattle.std.proofs.lemmas.Bool.{cases_lt, false≢true}
use Rattle.std.proofs.lemmas.List.{get_or_default}
use Rattle.kaba_bits.specs.Sets.{row}
use Rattle.fact_model.specs.Concepts.{IsStrictSubset}
use Rattle.concept_build.specs.Lists.{extents_of}
use Rattle.concept_build.proofs.covers.is_least.Goals as goal

pub loop-i-preserved : goal.loop-i-preserved
loop-i-preserved c =
    let E = extents_of c.args.items.now in
    let numbers = c.args.numbers.now in
    let at = c.loop-i.i-index in
    let j = c.args.j in
    let below : at < length numbers = omega arith in
    λ k d lt.
    ⊎_elim
    (λ before. c.loop-i.invariant k d before)
    (λ last.
    let is : at ≡ k = omega (arith, last, lt) in
    subst (λ n. IsStrictSubset (row E (get_or numbers n d)) (row E j)
    → ⊥) is (λ h. false≢true (c.if-is_within.ensures.1 (subst (λ m. IsStrictSubset (row E m) (row E j)) (get_or_default numbers at d 0 below) h))))
    (cases_lt k at)
