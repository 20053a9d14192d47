-- The closure of a table: it holds the set, grows with it, and holds what every implication of the table adds.
use Rattle.std.proofs.Common.{◌≡◌, ⊎_elim, ℕ, suc, zero, ◌<◌, Bool, true, false, List, [], ◌∷◌, length, refl, sym, ◌∙◌, subst, arith}
use Rattle.std.proofs.lemmas.Bool.{cases_Bool}
use Rattle.kaba_bits.specs.Sets.{bit, row, IsSubset}
use Rattle.kaba_bits.proofs.SetLemmas.{bit-below}
use Rattle.stem_base.specs.Base.{HoldsIn, is_subset, in_both, common}
use Rattle.stem_base.proofs.SetLemmas.{subset_is, is_subset_from, length-in_both, in_both-left, in_both-right, in_both-most, length-all_below, bit-all_below, bit-in_both, both_true}

-- a row that has all of P, and one that lacks some of it
pub common_has : (R : List Bool) (T : List (List Bool)) (w : ℕ) (P : List Bool) → IsSubset P R → common (R ∷ T) w P ≡ in_both (common T w P) R
common_has R T w P s = rw (is_subset_from P R s, common) refl

pub common_lacks : (R : List Bool) (T : List (List Bool)) (w : ℕ) (P : List Bool) → is_subset P R ≡ false → common (R ∷ T) w P ≡ common T w P
common_lacks R T w P s = rw (s, common) refl

-- what a set is within is shown by the two cases of each row
common_cases : (A : List Bool → Type 0) (R : List Bool) (T : List (List Bool)) (w : ℕ) (P : List Bool) → (IsSubset P R → A (in_both (common T w P) R))
    → (is_subset P R ≡ false → A (common T w P)) → A (common (R ∷ T) w P)
common_cases A R T w P has lacks = ⊎_elim
    (λ t. let s = subset_is P R t in subst A (sym (common_has R T w P s)) (has s))
    (λ f. subst A (sym (common_lacks R T w P f)) (lacks f))
    (cases_Bool (is_subset P R))

pub common_wide : (T : List (List Bool)) (w : ℕ) (P : List Bool) → length (common T w P) ≡ w
common_wide [] w P = length-all_below w
common_wide (R ∷ T) w P = common_cases (λ X. length X ≡ w) R T w P (λ s. length-in_both (common T w P) R ∙ common_wide T w P) (λ f. common_wide T w P)

pub common_below : (R : List Bool) (T : List (List Bool)) (w : ℕ) (P : List Bool) → IsSubset (common (R ∷ T) w P) (common T w P)
common_below R T w P = common_cases (λ X. IsSubset X (common T w P)) R T w P (λ s. in_both-left (common T w P) R) (λ f i h. h)

-- it is within each row that has all of P
pub common_row : (T : List (List Bool)) (w : ℕ) (P : List Bool) (k : ℕ) → k < length T → IsSubset P (row T k) → IsSubset (common T w P) (row T k)
common_row [] w P k lt s = absurd (omega (arith, lt))
common_row (R ∷ T) w P zero lt s = subst (λ (X : List Bool). IsSubset X R) (sym (common_has R T w P s)) (in_both-right (common T w P) R)
common_row (R ∷ T) w P (suc k) lt s = λ i h. common_row T w P k (omega (arith, lt)) s i (common_below R T w P i h)

-- and holds each set of the width that is within all of them
pub common_most : (T : List (List Bool)) (w : ℕ) (P Q : List Bool) → length Q ≡ w → HoldsIn T (P, Q) → IsSubset Q (common T w P)
common_most [] w P Q len h = λ i t. bit-all_below w i (omega (arith, len, bit-below Q i t))
common_most (R ∷ T) w P Q len h =
    let rest = common_most T w P Q len (λ k lt s. h (suc k) (omega (arith, lt)) s) in
    common_cases (λ X. IsSubset Q X) R T w P (λ s. in_both-most (common T w P) R Q rest (h 0 (omega arith) s)) (λ f. rest)

pub common_holds : (T : List (List Bool)) (w : ℕ) (P : List Bool) → length P ≡ w → IsSubset P (common T w P)
common_holds T w P len = common_most T w P P len (λ k lt s. s)

pub common_grows : (T : List (List Bool)) (w : ℕ) (P Q : List Bool) → IsSubset P Q → IsSubset (common T w P) (common T w Q)
common_grows T w P Q s = common_most T w Q (common T w P) (common_wide T w P) (λ k lt t. common_row T w P k lt (λ i h. t i (s i h)))

pub common_again : (T : List (List Bool)) (w : ℕ) (P : List Bool) → IsSubset (common T w (common T w P)) (common T w P)
common_again T w P = common_most T w P (common T w (common T w P)) (common_wide T w (common T w P))
    (λ k lt t. common_row T w (common T w P) k lt (common_row T w P k lt t))

-- a column that each row with all of P has is in the closure
pub common_column : (T : List (List Bool)) (w : ℕ) (P : List Bool) (c : ℕ) → c < w
    → ((r : ℕ) → r < length T → IsSubset P (row T r) → bit (row T r) c ≡ true) → bit (common T w P) c ≡ true
common_column [] w P c lt h = bit-all_below w c lt
common_column (R ∷ T) w P c lt h =
    let rest = common_column T w P c lt (λ r below s. h (suc r) (omega (arith, below)) s) in
    common_cases (λ X. bit X c ≡ true) R T w P
    (λ s. bit-in_both (common T w P) R c ∙ both_true (bit (common T w P) c) (bit R c) rest (h 0 (omega arith) s)) (λ f. rest)
