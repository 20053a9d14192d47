use Rattle.std.proofs.Common.{◌≡◌, ⊎_elim, true, get_or, sym, subst, ◌∙◌, ap, arith}
use Rattle.std.proofs.lemmas.Bool.{cases_lt}
use Rattle.std.proofs.lemmas.List.{get_or_default}
use Rattle.kaba_bits.specs.Sets.{bit}
use Rattle.concept_build.proofs.near.has_listed.Goals as goal

pub loop-c-preserved : goal.loop-c-preserved
loop-c-preserved c k d lt =
    let columns = c.args.columns.now in
    let row = c.args.row.now in
    let at = c.loop-c.c-index in
    ⊎_elim
    (λ before. c.loop-c.invariant k d before)
    (λ last.
    let is : at ≡ k = omega (arith, last, lt) in
    subst (λ n. bit row (get_or columns n d) ≡ true) is (ap (bit row) (get_or_default columns at d 0 c.loop-c-test.true) ∙ sym c.if-not-has.ensures))
    (cases_lt k at)

pub returns : goal.returns
returns c k d lt = c.loop-c.invariant k d (omega (arith, lt, c.loop-c-test.false))
