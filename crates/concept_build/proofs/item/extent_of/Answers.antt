use Rattle.std.proofs.Common.{◌≡◌, ⊎_elim, true, get_or, ◌&&◌, sym, ap, ◌∙◌, subst, arith}
use Rattle.std.proofs.lemmas.Bool.{cases_lt, and_parts, and_from}
use Rattle.std.proofs.lemmas.List.{get_or_default}
use Rattle.kaba_bits.specs.Sets.{bit, row}
use Rattle.concept_build.proofs.item.extent_of.Goals as goal

pub loop-c-preserved : goal.loop-c-preserved
loop-c-preserved c =
    let sets = c.args.extents.now.sets.items in
    let xs = c.args.columns.now in
    let n = c.loop-c.c-index in
    let old = c.loop-c.extent in
    let S = row sets (get_or xs n 0) in
    let is : (i : _) → bit c.and_into.new.self i ≡ _ = λ i. c.and_into.ensures.meet i ∙ ap (λ s. bit old i && bit s i) (c.row_at.ensures
    ∙ ap (λ l. row l (get_or xs n 0)) c.deref.ensures.value) in
    record {
      len = c.and_into.ensures.width ∙ c.loop-c.invariant.len;
      bits = λ r. (
        λ h.
            let both = and_parts (bit old r) (bit S r) (sym (is r) ∙ h) in
            let before = (c.loop-c.invariant.bits r).0 both.0 in (
              before.0,
              λ k d lt.
                  ⊎_elim
                  (λ less. before.1 k d less)
                  (λ high.
                  let e : n ≡ k = omega (arith, high, lt) in
                  subst (λ m. bit (row sets m) r ≡ true) (get_or_default xs n 0 d c.loop-c-test.true ∙ ap (λ i. get_or xs i d) e) both.1)
                  (cases_lt k n),
            ),
        λ h. is r ∙ and_from (bit old r) (bit S r) ((c.loop-c.invariant.bits r).1 (h.0, λ k d lt. h.1 k d (omega (arith, lt)))) (h.1 n 0 (omega arith)),
      );
    }
