-- What stands at a concept, seen by sizes.
use Rattle.std.proofs.Common.{◌≡◌, ◌↔◌, ℕ, suc, zero, ◌+◌, ◌<◌, ◌≤◌, Bool, true, false, List, [], ◌∷◌, length, refl, sym, ap, ◌∙◌, subst, arith}
use Rattle.std.proofs.lemmas.Bool.{false≢true}
use Rattle.std.proofs.lemmas.List.{get_or-map, length-map}
use Rattle.kaba_base.proofs.TestLemmas.{same_truth}
use Rattle.kaba_bits.specs.Sets.{bit, row, size, rising_from, rising, IsSubset, IsNoneFrom}
use Rattle.kaba_bits.proofs.SetLemmas.{bit-below, same_bits, size-true, size-false, subset-same, subset-both}
use Rattle.fact_model.specs.Concepts.{IsConcept, RowStands, ColumnStands}
use Rattle.concept_build.specs.Tables.{column}

length-rising_from : (k : ℕ) (xs : List Bool) → length (rising_from k xs) ≡ size xs
length-rising_from k [] = refl
length-rising_from k (true ∷ xs) = omega (arith, length-rising_from (k + 1) xs, size-true xs)
length-rising_from k (false ∷ xs) = omega (arith, length-rising_from (k + 1) xs, size-false xs)

pub length-rising : (xs : List Bool) → length (rising xs) ≡ size xs
length-rising xs = length-rising_from 0 xs

-- a set with numbers has one
some : (xs : List Bool) → 0 < size xs → (i : ℕ) × (bit xs i ≡ true)
some [] lt = absurd (omega (arith, lt))
some (true ∷ xs) lt = (0, refl)
some (false ∷ xs) lt = let h = some xs (omega (arith, lt, size-false xs)) in (suc h.0, h.1)

positive : (xs : List Bool) (i : ℕ) → bit xs i ≡ true → 0 < size xs
positive [] i h = cc
positive (true ∷ xs) i h = omega (arith, size-true xs)
positive (false ∷ xs) zero h = cc
positive (false ∷ xs) (suc i) h = omega (arith, positive xs i h, size-false xs)

module _ (T : List (List Bool)) (w : ℕ) (A B : List Bool) (o : IsConcept T w A B) where
  pub row_stands-is : (r : ℕ) → r < length T → length (row T r) ≡ w → ((bit A r ≡ true) × (size (row T r) ≡ size B)) ↔ RowStands T B r
  row_stands-is r rlt wide =
      let len : length B ≡ length (row T r) = o.intent.len ∙ sym wide in (
        λ h.
            let over = (o.extent.rows r rlt).0 h.0 in
            let e : B ≡ row T r = subset-same B (row T r) len over (omega (arith, h.1)) in
            (subst (λ s. IsSubset s B) e (λ i b. b), over),
        λ s. ((o.extent.rows r rlt).1 s.1, ap size (subset-both (row T r) B (sym len) s.0 s.1)),
      )

  module _ (c : ℕ) (clt : c < w) where
    bit-column : (r : ℕ) → r < length T → bit (column T c) r ≡ bit (row T r) c
    bit-column r rlt = get_or-map (λ r. bit r c) T r [] false rlt

    len-column : length A ≡ length (column T c)
    len-column = o.extent.len ∙ sym (length-map T (λ r. bit r c))

    pub column_stands-is : ((bit B c ≡ true) × (0 < size (column T c)) × (size (column T c) ≡ size A)) ↔ ColumnStands T A c
    column_stands-is = (
      λ h.
          let each = (o.intent.columns c clt).0 h.0 in
          let below = λ (r : ℕ) (a : bit A r ≡ true). subst (λ n. r < n) o.extent.len (bit-below A r a) in
          let over : IsSubset A (column T c) = λ r a. bit-column r (below r a) ∙ each r (below r a) a in
          let e : A ≡ column T c = subset-same A (column T c) len-column over (omega (arith, h.2)) in
          let one = some (column T c) h.1 in
          let lt : one.0 < length T = omega (arith, bit-below (column T c) one.0 one.1, length-map T (λ r. bit r c)) in
          record {
            live = (one.0, lt, sym (bit-column one.0 lt) ∙ one.1);
            rows = λ r rlt. (λ a. each r rlt a, λ b. subst (λ s. bit s r ≡ true) (sym e) (bit-column r rlt ∙ b));
          },
      λ s.
          let e : A ≡ column T c = same_bits A (column T c) len-column (λ r lt.
          let rlt : r < length T = subst (λ n. r < n) o.extent.len lt in
          same_truth (bit A r) (bit (column T c) r) (λ a. bit-column r rlt ∙ (s.rows r rlt).0 a) (λ b. (s.rows r rlt).1 (sym (bit-column r rlt) ∙ b))) in (
            (o.intent.columns c clt).1 (λ r rlt a. (s.rows r rlt).0 a),
            positive (column T c) s.live.0 (bit-column s.live.0 s.live.1 ∙ s.live.2),
            ap size (sym e),
          ),
    )

-- what an extent or an intent has is a row or a column; what it lacks does not stand at its concept
module _ (T : List (List Bool)) (w : ℕ) (A B : List Bool) (o : IsConcept T w A B) where
  pub row_below : (r : ℕ) → bit A r ≡ true → r < length T
  row_below r a = subst (λ n. r < n) o.extent.len (bit-below A r a)

  pub column_below : (c : ℕ) → bit B c ≡ true → c < w
  column_below c b = subst (λ n. c < n) o.intent.len (bit-below B c b)

  pub none_rows : (m n : ℕ) → n ≤ length T → IsNoneFrom (bit A) m n → (r : ℕ) → m ≤ r → r < n → RowStands T B r → ⊥
  none_rows m n le none r low high s = false≢true (sym (none r low high) ∙ (o.extent.rows r (omega (arith, high, le))).1 s.1)

  pub none_columns : (m n : ℕ) → n ≤ w → IsNoneFrom (bit B) m n → (c : ℕ) → m ≤ c → c < n → ColumnStands T A c → ⊥
  none_columns m n le none c low high s =
      false≢true (sym (none c low high) ∙ ((column_stands-is T w A B o c (omega (arith, high, le))).1 s).0)
