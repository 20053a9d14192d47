use Rattle.std.proofs.Common.{◌≡◌, ⊎_elim, ◌<◌, [], ◌∷◌, ◌++◌, length, get_or, refl, ap, ◌∙◌, subst, sym, arith, eqb}
use Rattle.std.specs.Prelude.{Contains}
use Rattle.std.proofs.lemmas.Bool.{cases_lt, false≢true}
use Rattle.std.proofs.lemmas.List.{get_or_default}
use Rattle.std.proofs.lemmas.List.Elements.{All-push, All-contains, Contains-push, Contains-append_left, Contains-get_or}
use Rattle.std.proofs.lemmas.List.Filters.{dedup_is}
use Rattle.std.proofs.lemmas.List.Kept.{Contains-dedup_nat, Contains-from_dedup}
use Rattle.std.proofs.lemmas.List.Sorted.{Contains-permutation, IsPermutation-sym}
use Rattle.std.proofs.lemmas.Map.Keys.{IsStrictlyIncreasing-dedup}
use Rattle.concept_build.specs.Lists.{extents_of, IsLeast}
use Rattle.concept_build.proofs.covers.least.Goals as goal
use Rattle.concept_build.proofs.covers.least.Goals.{then-is_least+in_ok-push, else-is_least}

pub loop-j-preserved : goal.loop-j-preserved
loop-j-preserved c =
    let E = extents_of c.args.items.now in
    let numbers = c.args.numbers.now in
    let n = c.loop-j.j-index in
    let j = get_or numbers n 0 in
    let old = c.loop-j.above.items in
    let same = λ (k d : _) (e : n ≡ k). get_or_default numbers n 0 d c.loop-j-test.true ∙ ap (λ i. get_or numbers i d) e in
    elim c.if-is_least.branch [
      | then-is_least+in_ok-push w ↦ rw (w.above-is, w.in_ok-push.ensures.items) (record {
        sound = All-push (λ i. Contains numbers i × IsLeast E numbers i) old j c.loop-j.invariant.sound
            (Contains-get_or numbers n 0 c.loop-j-test.true, w.if-is_least.ensures.0 refl);
        whole = λ k d lt h.
            ⊎_elim
            (λ less. Contains-append_left old (j ∷ []) (get_or numbers k d) (c.loop-j.invariant.whole k d less h))
            (λ high. subst (Contains (old ++ j ∷ [])) (same k d (omega (arith, high, lt))) (Contains-push old j))
            (cases_lt k n);
      })
      | else-is_least w ↦ rw w.above-is (record {
        sound = c.loop-j.invariant.sound;
        whole = λ k d lt h.
            ⊎_elim
            (λ less. c.loop-j.invariant.whole k d less h)
            (λ high. absurd (false≢true (w.if-is_least.ensures.1 (subst (IsLeast E numbers) (sym (same k d (omega (arith, high, lt)))) h))))
            (cases_lt k n);
      })
    ]

pub returns : goal.returns
returns c =
    let E = extents_of c.args.items.now in
    let numbers = c.args.numbers.now in
    let found = c.loop-j.above.items in
    let sorted = c.sort.new.self.items in
    let p = c.in_ok-sort.ensures.permutation in
    let e = dedup_is eqb sorted c.dedup.new.self.items c.dedup.ensures.filtered in
    rw e (record {
      each = λ k. (
        λ h.
            let o = All-contains (λ i. Contains numbers i × IsLeast E numbers i) found k c.loop-j.invariant.sound
            (Contains-permutation sorted found k (IsPermutation-sym found sorted p) (Contains-from_dedup eqb sorted k h)) in
            (All-contains (λ i. i < length c.args.items.now) numbers k c.requires.numbers o.0, o),
        λ h.
            let at = h.1.0 in
            let least = subst (IsLeast E numbers) (sym at.2) h.1.1 in
            Contains-dedup_nat sorted k (Contains-permutation found sorted k p
            (subst (Contains found) at.2 (c.loop-j.invariant.whole at.0 k (omega (arith, at.1, c.loop-j-test.false)) least))),
      );
      rising = IsStrictlyIncreasing-dedup sorted c.in_ok-sort.ensures.sorted;
    })
