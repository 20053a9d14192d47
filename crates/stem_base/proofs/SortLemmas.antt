-- Implications in lectic order, turned round and sorted by size, stand in the order of the base.
use Rattle.std.proofs.Common.{◌≡◌, ◌≢◌, ⊎_elim, ℕ, ◌+◌, ◌-◌, ◌<◌, ◌≤◌, false, eqb, List, length, map, get_or, All, AllPairs, refl, sym, ap, ◌∙◌, subst, arith, Ordering}
use Rattle.std.specs.declared.cmp.Ordering.TheVariants.{Less, Equal, Greater}
use Rattle.std.specs.Ordering.{nat_cmp, ordering_then, ordering_reverse, is_lt}
use Rattle.std.specs.Cmp.{nat_cmp_is}
use Rattle.std.specs.Cmp.Lexicographic.{slice_cmp}
use Rattle.std.specs.List.Sorted.{IsSortedBy, IsSortedByKey, IsStableByKey, IsPermutation}
use Rattle.std.specs.List.{ReversedBelow}
use Rattle.std.specs.FinSet.{nat_cmp-IsAntisymmetric, slice_cmp-IsAntisymmetric}
use Rattle.std.proofs.lemmas.Bool.{cases_lt, cases_Bool, true≢false, false≢true, eq-eqb, eqb-true}
use Rattle.std.proofs.lemmas.List.{length-map, get_or-map}
use Rattle.std.proofs.lemmas.List.MinMax.{ranks_by}
use Rattle.std.proofs.lemmas.List.Sorted.{sorted_far, ties_still_rise, IsPermutation-map, IsPermutation-trans, All-permutation, length_permutation, IsNonDecreasingBy-from_sort}
use Rattle.std.proofs.lemmas.Map.Keys.{IsDistinct-IsPermutation}
use Rattle.std.proofs.lemmas.Map.Made.{AllPairs-from_IsDistinct, IsDistinct-from_AllPairs}
use Rattle.std.proofs.lemmas.Bool.Decides.{Decides-eqb}
use Rattle.kaba_bits.specs.Sets.{size, rising}
use Rattle.kaba_bits.proofs.RisingLemmas.{rising_from-same}
use Rattle.stem_base.specs.declared.implications.Implication.{Implication}
use Rattle.stem_base.specs.Base.{Sides, implication_cmp, sides_of, all_sides}
use Rattle.stem_base.specs.Lectic.{Precedes}
use Rattle.stem_base.specs.Found.{lectic_rank, power_of_two}
use Rattle.stem_base.proofs.Laws.{implication_cmp-total}
use Rattle.stem_base.proofs.OrderLemmas.{three}
use Rattle.stem_base.proofs.FoundLemmas.{lectic_rank-before, lectic_rank-lt}
use Rattle.stem_base.proofs.RisingOrder.{rising_less}

abbrev sizes : Implication → ℕ
sizes x = size x.left

less_is : (a b : ℕ) → a < b → nat_cmp a b ≡ Less
less_is a b lt = sym (nat_cmp_is a b Less lt)

equal_is : (a b : ℕ) → a ≡ b → nat_cmp a b ≡ Equal
equal_is a b e = sym (nat_cmp_is a b Equal e)

not_less : (a b : ℕ) → b ≤ a → is_lt (nat_cmp a b) ≡ false
not_less a b le = ⊎_elim
    (λ lt. ap is_lt (sym (nat_cmp_is a b Greater lt)))
    (λ ge. ap is_lt (equal_is a b (omega (arith, le, ge))))
    (cases_lt b a)

by_size : (a b : Sides) → size a.0 < size b.0 → implication_cmp a b ≡ Less
by_size a b lt = rw (less_is (size a.0) (size b.0) lt) refl

by_rising : (a b : Sides) → size a.0 ≡ size b.0 → slice_cmp nat_cmp (rising a.0) (rising b.0) ≡ Less → implication_cmp a b ≡ Less
by_rising a b e h = rw (equal_is (size a.0) (size b.0) e) h

then_equal : (x y : Ordering) → ordering_then x y ≡ Equal → (x ≡ Equal) × (y ≡ Equal)
then_equal Less y e = cc
then_equal Equal y e = (refl, e)
then_equal Greater y e = cc

same_left : (a b : Sides) → length a.0 ≡ length b.0 → implication_cmp a b ≡ Equal → a.0 ≡ b.0
same_left a b l e =
    let t = then_equal (nat_cmp (size a.0) (size b.0)) (slice_cmp nat_cmp (rising a.0) (rising b.0)) e in
    rising_from-same 0 a.0 b.0 l (slice_cmp-IsAntisymmetric nat_cmp-IsAntisymmetric (rising a.0) (rising b.0) t.1)

turned : (a b : Sides) (o : Ordering) → implication_cmp b a ≡ o → is_lt o ≡ false → (o ≡ Equal → ⊥) → implication_cmp a b ≡ Less
turned a b Less e n d = absurd (true≢false n)
turned a b Equal e n d = absurd (d refl)
turned a b Greater e n d = implication_cmp-total.antisymm a b ∙ ap ordering_reverse e

flips : (x y : ℕ) → eqb x y ≡ eqb y x
flips x y = ⊎_elim
    (λ t. t ∙ sym (eq-eqb y x (sym (eqb-true x y t))))
    (λ f. ⊎_elim (λ t. absurd (false≢true (sym f ∙ eq-eqb x y (sym (eqb-true y x t))))) (λ g. f ∙ sym g) (cases_Bool (eqb y x)))
    (cases_Bool (eqb x y))

module _ (w : ℕ) where
  abbrev turns : Implication → ℕ
  turns x = power_of_two w - lectic_rank x.left

  -- turned round, the lectic order falls
  turned_round : (xs ys : List Implication) → AllPairs (λ x y. Precedes x.left y.left) xs → All (λ x. length x.left ≡ w) xs
      → ReversedBelow xs ys (length xs) → length ys ≡ length xs → IsSortedByKey turns nat_cmp ys
  turned_round xs ys up wide back len k d low lt =
      let n = length xs in
      let i = n - 1 - (k + 1) in
      let j = n - 1 - k in
      let ij : i < j = omega (arith, lt, len) in
      let jn : j < n = omega (arith, lt, len) in
      let a = get_or xs i d in
      let b = get_or xs j d in
      let r = lectic_rank-before a.left b.left (wide i d (omega (arith, ij, jn)) ∙ sym (wide j d jn)) (up i j d ij jn) in
      let pa : get_or ys (k + 1) d ≡ a = back (k + 1) d (omega (arith, lt, len)) in
      let pb : get_or ys k d ≡ b = back k d (omega (arith, lt, len)) in
      subst (λ (x : Implication). is_lt (nat_cmp (turns x) (turns (get_or ys k d))) ≡ false) (sym pa)
      (subst (λ (x : Implication). is_lt (nat_cmp (turns a) (turns x)) ≡ false) (sym pb) (not_less (turns a) (turns b) (omega (arith, r))))

  module _ (ys zs : List Implication) (falls : IsSortedByKey turns nat_cmp ys) (stable : IsStableByKey sizes nat_cmp ys zs)
      (sorted : IsSortedByKey sizes nat_cmp zs) (wide : All (λ x. length x.left ≡ w) zs)
      (differ : (i j : ℕ) (d : Implication) → i < j → j < length zs → (get_or zs i d).left ≢ (get_or zs j d).left) where
    near : (k : ℕ) (d : Implication) → k + 1 < length zs → implication_cmp (sides_of (get_or zs k d)) (sides_of (get_or zs (k + 1) d)) ≡ Less
    near k d lt =
        let a = get_or zs k d in
        let b = get_or zs (k + 1) d in
        let la = wide k d (omega (arith, lt)) in
        let lb = wide (k + 1) d lt in
        ⊎_elim
        (λ less. by_size (sides_of a) (sides_of b) less)
        (λ ge.
        let up = IsNonDecreasingBy-from_sort sizes zs sorted k (k + 1) d (omega arith) lt in
        let e : size a.left ≡ size b.left = omega (arith, ge, up) in
        let m = ties_still_rise turns sizes ys zs falls stable k d lt e in
        ⊎_elim
        (λ same. absurd (differ k (k + 1) d (omega arith) lt same))
        (λ o. ⊎_elim
        (λ before. absurd (let r = lectic_rank-before a.left b.left (la ∙ sym lb) before in let q = lectic_rank-lt b.left in
        let t = ap power_of_two lb in omega (arith, r, q, t, m)))
        (λ before. by_rising (sides_of a) (sides_of b) e (rising_less a.left b.left (la ∙ sym lb) e before)) o)
        (three a.left b.left (la ∙ sym lb)))
        (cases_lt (size a.left) (size b.left))

    pub in_order : AllPairs (λ a b. implication_cmp a b ≡ Less) (all_sides zs)
    in_order i j d ij jlt =
        let len = length-map zs sides_of in
        let jz : j < length zs = omega (arith, jlt, len) in
        let x : Implication = record { left = d.0; right = d.1 } in
        let a = get_or zs i x in
        let b = get_or zs j x in
        let lt = λ (x y : Implication). is_lt (implication_cmp (sides_of x) (sides_of y)) in
        let up : IsSortedBy lt zs = λ k e low kl.
        ap is_lt (implication_cmp-total.antisymm (sides_of (get_or zs (k + 1) e)) (sides_of (get_or zs k e)) ∙ ap ordering_reverse (near k e kl)) in
        let far = sorted_far lt (ranks_by implication_cmp-total sides_of) zs up i j x (omega (arith, ij)) jz in
        let less = turned (sides_of a) (sides_of b) (implication_cmp (sides_of b) (sides_of a)) refl far
        (λ e. differ i j x ij jz (sym (same_left (sides_of b) (sides_of a) (wide j x jz ∙ sym (wide i x (omega (arith, ij, jz)))) e))) in
        let pa : get_or (all_sides zs) i d ≡ sides_of a = get_or-map sides_of zs i x d (omega (arith, ij, jz)) in
        let pb : get_or (all_sides zs) j d ≡ sides_of b = get_or-map sides_of zs j x d jz in
        subst (λ (r : Sides). implication_cmp r (get_or (all_sides zs) j d) ≡ Less) (sym pa)
        (subst (λ (r : Sides). implication_cmp (sides_of a) r ≡ Less) (sym pb) less)

-- the same elements in another order have different left sides, if they had
lectic_ranks : List Implication → List ℕ
lectic_ranks xs = map (λ x. lectic_rank x.left) xs

differ_still : (w : ℕ) (xs zs : List Implication) → AllPairs (λ x y. Precedes x.left y.left) xs → All (λ x. length x.left ≡ w) xs → IsPermutation xs zs
    → (i j : ℕ) (d : Implication) → i < j → j < length zs → (get_or zs i d).left ≢ (get_or zs j d).left
unfolding lectic_ranks
differ_still w xs zs up wide p i j d ij jlt e =
    let f = λ (x : Implication). lectic_rank x.left in
    let apart : AllPairs (λ m n. m ≢ n) (lectic_ranks xs) = λ k l m kl lt.
    let len = length-map xs f in
    let ll : l < length xs = omega (arith, lt, len) in
    let r = lectic_rank-before (get_or xs k d).left (get_or xs l d).left (wide k d (omega (arith, kl, ll)) ∙ sym (wide l d ll)) (up k l d kl ll) in
    let a = get_or-map f xs k d m (omega (arith, kl, ll)) in
    let b = get_or-map f xs l d m ll in
    λ same. absurd (omega (arith, r, a, b, same)) in
    let still = AllPairs-from_IsDistinct Decides-eqb (lectic_ranks zs) (IsDistinct-IsPermutation eqb flips (lectic_ranks xs) (lectic_ranks zs)
    (IsPermutation-map f xs zs p)
    (IsDistinct-from_AllPairs Decides-eqb (lectic_ranks xs) apart)) in
    let len = length-map zs f in
    still i j 0 ij (omega (arith, jlt, len)) (get_or-map f zs i d 0 (omega (arith, ij, jlt)) ∙ (ap lectic_rank e ∙ sym (get_or-map f zs j d 0 jlt)))

pub sort_ends : (xs ys zs : List Implication) → AllPairs (λ r s. Precedes r.0 s.0) (all_sides xs) → (w : ℕ) × All (λ r. length r.0 ≡ w) (all_sides xs)
    → ReversedBelow xs ys (length xs) → IsPermutation xs ys → IsPermutation ys zs → IsSortedByKey sizes nat_cmp zs → IsStableByKey sizes nat_cmp ys zs
    → AllPairs (λ a b. implication_cmp a b ≡ Less) (all_sides zs)
sort_ends xs ys zs up widths back p q sorted stable =
    let w = widths.0 in
    let len = length-map xs sides_of in
    let at = λ (k : ℕ) (d : Implication) (lt : k < length xs). get_or-map sides_of xs k d (sides_of d) lt in
    let wide : All (λ (x : Implication). length x.left ≡ w) xs = λ k d lt.
    subst (λ (r : Sides). length r.0 ≡ w) (at k d lt) (widths.1 k (sides_of d) (omega (arith, lt, len))) in
    let before : AllPairs (λ (x y : Implication). Precedes x.left y.left) xs = λ i j d ij lt.
    subst (λ (r : Sides). Precedes r.0 (get_or xs j d).left) (at i d (omega (arith, ij, lt)))
    (subst (λ (r : Sides). Precedes (get_or (all_sides xs) i (sides_of d)).0 r.0) (at j d lt) (up i j (sides_of d) ij (omega (arith, lt, len)))) in
    let all = IsPermutation-trans xs ys zs p q in
    let falls = turned_round w xs ys before wide back (length_permutation xs ys p) in
    in_order w ys zs falls stable sorted (All-permutation (λ (x : Implication). length x.left ≡ w) xs zs all wide) (differ_still w xs zs before wide all)
