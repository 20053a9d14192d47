-- The concepts above one, by the concepts whose extent has a number.
use Rattle.std.proofs.Common.{◌≡◌, ℕ, ◌<◌, Bool, true, false, ◌&&◌, List, length, get_or, All, sym, ap, ◌∙◌, subst, arith, eq-eqb}
use Rattle.std.proofs.lemmas.Bool.{ne_eqb}
use Rattle.std.proofs.lemmas.List.Elements.{All-from_get_or}
use Rattle.kaba_bits.specs.Sets.{bit, row, ListsBelow}
use Rattle.fact_model.specs.declared.sets.Concept.{Concept}
use Rattle.hier_model.specs.Listed.{extent_of, is_above_concept, AreConceptsWith}
use Rattle.hier_model.specs.Start.{is_subset}
use Rattle.hier_model.proofs.SetTests.{listed-below, listed-filled, listed-subset}

-- those that have each number of its extent
module _ (cs : List Concept) (having : List (List Bool)) (a : ℕ) (set : List Bool) (xs : List ℕ) (h : AreConceptsWith cs (length cs) having) (lt : a < length cs)
    (same : (i j : ℕ) → i < length cs → j < length cs → length (extent_of cs i) ≡ length (extent_of cs j)) (is : set ≡ extent_of cs a)
    (exact : ListsBelow (λ i. bit set i ≡ true) (length set) xs) where
  own : ListsBelow (λ i. bit (extent_of cs a) i ≡ true) (length (extent_of cs a)) xs
  own = subst (λ (s : List Bool). ListsBelow (λ i. bit s i ≡ true) (length s) xs) is exact

  pub own_below : All (λ i. i < length having) xs
  own_below = listed-below (extent_of cs a) xs own (length having) (same a 0 lt (omega (arith, lt)) ∙ sym h.len)

  pub none_above : length xs ≡ 0 → (b : ℕ) → false ≡ is_above_concept cs a b
  none_above none b =
      ap (λ t. t && is_subset (extent_of cs a) (extent_of cs b)) (listed-filled (extent_of cs a) xs own true (sym (eq-eqb (length xs) 0 none)))

  pub are_above : (above : List Bool) → 0 < length xs
      → ((b k : ℕ) → bit above b ≡ true → k < length xs → bit (row having (get_or xs k 0)) b ≡ true)
      → ((b : ℕ) → All (λ i. bit (row having i) b ≡ true) xs → bit above b ≡ true) → (b : ℕ) → b < length cs → bit above b ≡ is_above_concept cs a b
  are_above above some all from b below =
      listed-subset (extent_of cs a) xs own (extent_of cs b) (bit above b)
      (λ t. All-from_get_or (λ i. bit (extent_of cs b) i ≡ true) xs 0 (λ k kt. sym (h.bits (get_or xs k 0) b below) ∙ all b k t kt))
      (λ each. from b (λ i d it. h.bits (get_or xs i d) b below ∙ each i d it))
      ∙ ap (λ t. t && is_subset (extent_of cs a) (extent_of cs b))
      (listed-filled (extent_of cs a) xs own false (sym (ne_eqb (length xs) 0 (λ e. omega (arith, e, some)))))
