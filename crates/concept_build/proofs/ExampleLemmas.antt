-- One row of each set of columns.
use Rattle.std.proofs.Common.{◌≡◌, ⊎_elim, ℕ, ◌+◌, ◌<◌, ◌≤◌, Bool, List, [], ◌∷◌, ◌++◌, length, map, get_or, refl, sym, ap, ◌∙◌, arith, All}
use Rattle.std.specs.Prelude.{Contains}
use Rattle.std.specs.List.Sorted.{IsPermutation}
use Rattle.std.proofs.lemmas.Bool.{cases_lt}
use Rattle.std.proofs.lemmas.List.{map-append, get_or-map, length-map, length_push}
use Rattle.std.proofs.lemmas.List.Elements.{All-push, Contains-push, Contains-append_left, Contains-get_or}
use Rattle.std.proofs.lemmas.List.Sorted.{All-permutation, Contains-permutation}
use Rattle.kaba_bits.specs.Sets.{row, rising, HasWidth}
use Rattle.kaba_bits.proofs.RisingLemmas.{rising_from-same}
use Rattle.concept_build.specs.Tables.{AreExamples}

module _ (T : List (List Bool)) where
  abbrev columns_at : ℕ → List ℕ
  columns_at q = rising (row T q)

  -- what holds after the first n rows
  pub record Listed (n : ℕ) (xs : List ℕ) (keys : List (List ℕ)) : Type 0 where
    pub listed : keys ≡ map columns_at xs
    pub few : length xs ≤ n
    pub below : All (λ q. q < length T) xs
    pub each : (r : ℕ) → r < n → (q : ℕ) × Contains xs q × (row T q ≡ row T r)

  pub Listed-empty : Listed 0 [] []
  Listed-empty = record {
    listed = refl;
    few = omega arith;
    below = λ k d lt. absurd (omega (arith, lt));
    each = λ r lt. absurd (omega (arith, lt));
  }

  module _ (n : ℕ) (xs : List ℕ) (keys new : List (List ℕ)) (s : Listed n xs keys) (lt : n < length T) where
    pub Listed-push : new ≡ keys ++ columns_at n ∷ [] → Listed (n + 1) (xs ++ n ∷ []) new
    Listed-push e = record {
      listed = e ∙ (ap (λ l. l ++ columns_at n ∷ []) s.listed ∙ sym (map-append columns_at xs (n ∷ [])));
      few = omega (arith, length_push xs n, s.few);
      below = All-push (λ q. q < length T) xs n s.below lt;
      each = λ r rlt.
          ⊎_elim
          (λ less. let h = s.each r less in (h.0, Contains-append_left xs (n ∷ []) h.0 h.1, h.2))
          (λ high. let e : n ≡ r = omega (arith, high, rlt) in (n, Contains-push xs n, ap (row T) e))
          (cases_lt r n);
    }

    pub Listed-skip : (w : ℕ) → HasWidth w T → new ≡ keys → Contains keys (columns_at n) → Listed (n + 1) xs new
    Listed-skip w widths e c = record {
      listed = e ∙ s.listed;
      few = omega (arith, s.few);
      below = s.below;
      each = λ r rlt.
          ⊎_elim
          (s.each r)
          (λ high.
          let e : n ≡ r = omega (arith, high, rlt) in
          let k = c.0 in
          let klt : k < length xs = omega (arith, c.1, ap length s.listed, length-map xs columns_at) in
          let q = get_or xs k 0 in
          let same : columns_at q ≡ columns_at n = sym (get_or-map columns_at xs k 0 (columns_at n) klt)
          ∙ (sym (ap (λ l. get_or l k (columns_at n)) s.listed) ∙ c.2) in
          (q, Contains-get_or xs k 0 klt, rising_from-same 0 (row T q) (row T n) (widths q (s.below k 0 klt) ∙ sym (widths n lt)) same ∙ ap (row T) e))
          (cases_lt r n);
    }

  pub AreExamples-listed : (n : ℕ) (xs : List ℕ) (keys : List (List ℕ)) → n ≡ length T → Listed n xs keys → AreExamples T xs
  AreExamples-listed n xs keys e s = record { below = s.below; each = λ r lt. s.each r (omega (arith, lt, e)) }

  pub AreExamples-permutation : (xs ys : List ℕ) → IsPermutation xs ys → AreExamples T xs → AreExamples T ys
  AreExamples-permutation xs ys p s = record {
    below = All-permutation (λ q. q < length T) xs ys p s.below;
    each = λ r lt. let h = s.each r lt in (h.0, Contains-permutation xs ys h.0 p h.1, h.2);
  }
