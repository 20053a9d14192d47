-- Different concepts, sorted.
use Rattle.std.proofs.Common.{◌≡◌, ℕ, ◌<◌, Bool, false, List, length, get_or, sym, ap, ◌∙◌, arith, All, AllPairs, Ordering, refl}
use Rattle.std.specs.Prelude.{◌==◌}
use Rattle.std.specs.Bool.{Decides}
use Rattle.std.specs.Cmp.Lexicographic.{pointwise, slice_cmp}
use Rattle.std.specs.declared.cmp.Ordering.TheVariants.{Less, Equal, Greater}
use Rattle.std.specs.FinSet.{nat_cmp-IsAntisymmetric, slice_cmp-IsAntisymmetric}
use Rattle.std.specs.Ordering.{nat_cmp, ordering_then, ordering_reverse, is_lt}
use Rattle.std.specs.List.Sorted.{IsSortedBy, IsPermutation}
use Rattle.std.proofs.lemmas.Bool.{true≢false}
use Rattle.std.proofs.lemmas.Bool.Decides.{Decides-eqb}
use Rattle.std.proofs.lemmas.Slice.Eq.{slice_eq-Decides}
use Rattle.std.proofs.lemmas.List.{length-map, get_or_default}
use Rattle.std.proofs.lemmas.List.MinMax.{ranks_by}
use Rattle.std.proofs.lemmas.List.Sorted.{sorted_far, IsPermutation-map, All-permutation, Contains-permutation}
use Rattle.std.proofs.lemmas.Map.Keys.{IsDistinct-IsPermutation}
use Rattle.std.proofs.lemmas.Map.Made.{AllPairs-from_IsDistinct, IsDistinct-from_AllPairs}
use Rattle.kaba_base.proofs.TestLemmas.{same_truth}
use Rattle.kaba_bits.specs.Sets.{size, rising}
use Rattle.fact_model.specs.Concepts.{Pair, concept_cmp, IsConcept, AreConcepts, HasIntent}
use Rattle.concept_build.specs.Lists.{columns_of, AreDifferent, IsBefore}
use Rattle.concept_build.proofs.OrderLemmas.{concept_cmp-total}
use Rattle.concept_build.proofs.ExtentLemmas.{nothing, column-columns_of}

same : (a b : List ℕ) → Decides (pointwise (λ x y. x == y) a b) (a ≡ b)
same a b = slice_eq-Decides Decides-eqb a b _ refl

flips : (a b : List ℕ) → pointwise (λ x y. x == y) a b ≡ pointwise (λ x y. x == y) b a
flips a b = same_truth _ _ (λ h. (same b a).1 (sym ((same a b).0 h))) (λ h. (same a b).1 (sym ((same b a).0 h)))

AreDifferent-permutation : (xs ys : List (List ℕ)) → IsPermutation xs ys → AreDifferent xs → AreDifferent ys
AreDifferent-permutation xs ys p h = AllPairs-from_IsDistinct same ys (IsDistinct-IsPermutation (pointwise (λ x y. x == y)) flips xs ys p
    (IsDistinct-from_AllPairs same xs h))

then-Equal : (x y : Ordering) → ordering_then x y ≡ Equal → y ≡ Equal
then-Equal Less y e = cc
then-Equal Equal y e = e
then-Equal Greater y e = cc

same_columns : (a b : Pair) → concept_cmp a b ≡ Equal → rising a.1 ≡ rising b.1
same_columns a b e =
    slice_cmp-IsAntisymmetric nat_cmp-IsAntisymmetric (rising a.1) (rising b.1) (then-Equal (nat_cmp (size b.0) (size a.0))
    (slice_cmp nat_cmp (rising a.1) (rising b.1)) e)

-- not after and not alike is before
turned : (a b : Pair) (o : Ordering) → concept_cmp b a ≡ o → is_lt o ≡ false → (o ≡ Equal → ⊥) → IsBefore a b
turned a b Less e n d = absurd (true≢false n)
turned a b Equal e n d = absurd (d refl)
turned a b Greater e n d = concept_cmp-total.antisymm a b ∙ ap ordering_reverse e

pub ordered_from_sort : (xs ys : List Pair) → AreDifferent (columns_of xs) → IsPermutation xs ys → IsSortedBy (λ a b. is_lt (concept_cmp a b)) ys
    → AllPairs IsBefore ys
ordered_from_sort xs ys differ p up i j d ij jlt =
    let a = get_or ys i d in
    let b = get_or ys j d in
    let len = length-map ys (λ (x : Pair). rising x.1) in
    let apart = AreDifferent-permutation (columns_of xs) (columns_of ys) (IsPermutation-map (λ (x : Pair). rising x.1) xs ys p) differ in
    let at = λ (k : ℕ) (lt : k < length ys). column-columns_of ys k (rising a.1) lt ∙ ap (λ (x : Pair). rising x.1) (get_or_default ys k nothing d lt) in
    turned a b (concept_cmp b a) refl (sorted_far (λ x y. is_lt (concept_cmp x y)) (ranks_by concept_cmp-total (λ x. x)) ys up i j d (omega (arith, ij)) jlt)
    (λ e. apart i j (rising a.1) ij (omega (arith, jlt, len)) (at i (omega (arith, ij, jlt)) ∙ (sym (same_columns b a e) ∙ sym (at j jlt))))

pub HasIntent-permutation : (xs ys : List Pair) (B : List Bool) → IsPermutation xs ys → HasIntent xs B → HasIntent ys B
HasIntent-permutation xs ys B p h =
    let x = get_or xs h.at nothing in
    let c = Contains-permutation xs ys x p (h.at, h.below, get_or_default xs h.at x nothing h.below) in
    record { at = c.0; below = c.1; is = λ d. ap (λ (y : Pair). y.1) (get_or_default ys c.0 d x c.1 ∙ c.2) ∙ h.is nothing }

pub AreConcepts-sorted : (T : List (List Bool)) (w : ℕ) (xs ys : List Pair) → IsPermutation xs ys → All (λ k. IsConcept T w k.0 k.1) xs
    → AllPairs IsBefore ys → AreConcepts T w ys
AreConcepts-sorted T w xs ys p each ordered = record { each = All-permutation (λ k. IsConcept T w k.0 k.1) xs ys p each; ordered = ordered }
