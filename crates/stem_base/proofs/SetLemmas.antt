-- Subsets by test, and what two sets have in common.
use Rattle.std.proofs.Common.{◌≡◌, ℕ, suc, zero, ◌<◌, Bool, true, false, List, [], ◌∷◌, length, refl, sym, ap, arith, ◌&&◌}
use Rattle.std.proofs.lemmas.Bool.{false≢true, and_parts}
use Rattle.kaba_bits.specs.Sets.{bit, IsSubset}
use Rattle.stem_base.specs.Base.{is_subset, in_both, all_below}

pub subset_is : (a b : List Bool) → is_subset a b ≡ true → IsSubset a b
subset_is [] b h i t = absurd (false≢true t)
subset_is (true ∷ a) [] h i t = absurd (false≢true h)
subset_is (false ∷ a) [] h zero t = absurd (false≢true t)
subset_is (false ∷ a) [] h (suc i) t = subset_is a [] h i t
subset_is (true ∷ a) (x ∷ b) h zero t = (and_parts x (is_subset a b) h).0
subset_is (true ∷ a) (x ∷ b) h (suc i) t = subset_is a b (and_parts x (is_subset a b) h).1 i t
subset_is (false ∷ a) (x ∷ b) h zero t = absurd (false≢true t)
subset_is (false ∷ a) (x ∷ b) h (suc i) t = subset_is a b h i t

pub is_subset_from : (a b : List Bool) → IsSubset a b → is_subset a b ≡ true
is_subset_from [] b s = refl
is_subset_from (true ∷ a) [] s = absurd (false≢true (s 0 refl))
is_subset_from (false ∷ a) [] s = is_subset_from a [] (λ i h. s (suc i) h)
is_subset_from (true ∷ a) (true ∷ b) s = is_subset_from a b (λ i h. s (suc i) h)
is_subset_from (true ∷ a) (false ∷ b) s = absurd (false≢true (s 0 refl))
is_subset_from (false ∷ a) (x ∷ b) s = is_subset_from a b (λ i h. s (suc i) h)

pub length-in_both : (a b : List Bool) → length (in_both a b) ≡ length a
length-in_both [] b = refl
length-in_both (x ∷ a) [] = ap suc (length-in_both a [])
length-in_both (x ∷ a) (y ∷ b) = ap suc (length-in_both a b)

pub in_both-left : (a b : List Bool) → IsSubset (in_both a b) a
in_both-left [] b i h = h
in_both-left (x ∷ a) [] zero h = absurd (false≢true h)
in_both-left (x ∷ a) [] (suc i) h = in_both-left a [] i h
in_both-left (x ∷ a) (y ∷ b) zero h = (and_parts x y h).0
in_both-left (x ∷ a) (y ∷ b) (suc i) h = in_both-left a b i h

pub in_both-right : (a b : List Bool) → IsSubset (in_both a b) b
in_both-right [] b i h = absurd (false≢true h)
in_both-right (x ∷ a) [] zero h = h
in_both-right (x ∷ a) [] (suc i) h = absurd (false≢true (in_both-right a [] i h))
in_both-right (x ∷ a) (y ∷ b) zero h = (and_parts x y h).1
in_both-right (x ∷ a) (y ∷ b) (suc i) h = in_both-right a b i h

pub both_true : (x y : Bool) → x ≡ true → y ≡ true → (x && y) ≡ true
both_true true true a b = refl
both_true true false a b = b
both_true false y a b = a

pub in_both-most : (a b c : List Bool) → IsSubset c a → IsSubset c b → IsSubset c (in_both a b)
in_both-most [] b c s t i h = s i h
in_both-most (x ∷ a) [] c s t i h = absurd (false≢true (t i h))
in_both-most (x ∷ a) (y ∷ b) c s t zero h = both_true x y (s 0 h) (t 0 h)
in_both-most (x ∷ a) (y ∷ b) [] s t (suc i) h = absurd (false≢true h)
in_both-most (x ∷ a) (y ∷ b) (z ∷ c) s t (suc i) h = in_both-most a b c (λ j g. s (suc j) g) (λ j g. t (suc j) g) i h

pub length-all_below : (w : ℕ) → length (all_below w) ≡ w
length-all_below zero = refl
length-all_below (suc w) = ap suc (length-all_below w)

pub bit-all_below : (w i : ℕ) → i < w → bit (all_below w) i ≡ true
bit-all_below zero i h = absurd (omega (arith, h))
bit-all_below (suc w) zero h = refl
bit-all_below (suc w) (suc i) h = bit-all_below w i (omega (arith, h))

pub bit-in_both : (a b : List Bool) (i : ℕ) → bit (in_both a b) i ≡ (bit a i && bit b i)
bit-in_both [] b i = refl
bit-in_both (x ∷ a) [] i = elim i as (λ i. bit (in_both (x ∷ a) []) i ≡ (bit (x ∷ a) i && false)) [ zero ↦ sym (none x) | suc j ↦ bit-in_both a [] j ]
  where
    none : (x : Bool) → (x && false) ≡ false
    none true = refl
    none false = refl
bit-in_both (x ∷ a) (y ∷ b) i = elim i as (λ i. bit (in_both (x ∷ a) (y ∷ b)) i ≡ (bit (x ∷ a) i && bit (y ∷ b) i)) [ zero ↦ refl | suc j ↦ bit-in_both a b j ]
