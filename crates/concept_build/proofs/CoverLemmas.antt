use Rattle.std.proofs.Common.{◌≡◌, ◌↔◌, ⊎_elim, ℕ, suc, ◌<◌, Bool, true, false, List, [], ◌∷◌, length, get_or, refl, sym, ap, ◌∙◌, subst, arith}
use Rattle.std.specs.Prelude.{Contains}
use Rattle.std.proofs.lemmas.Bool.{cases_lt, false≢true}
use Rattle.std.proofs.lemmas.List.{length-map}
use Rattle.std.proofs.lemmas.List.Elements.{All-contains, Contains-get_or}
use Rattle.kaba_bits.specs.Sets.{bit, row, size, IsSubset}
use Rattle.kaba_bits.proofs.SetLemmas.{bit-below, size-true, size-false, size-subset, subset-same}
use Rattle.fact_model.specs.Concepts.{Pair, AreConcepts, IsStrictSubset, IsUpperCover}
use Rattle.concept_build.specs.Tables.{AreNear}
use Rattle.concept_build.specs.Lists.{extents_of, IsClosure, AreCandidates, IsLeast}
use Rattle.concept_build.proofs.MeetLemmas.{near-has}
use Rattle.concept_build.proofs.ExtentLemmas.{nothing, row-extents_of}

pub within_by : (a b : List Bool) → length a ≡ length b → IsSubset a b → (q : ℕ) → bit a q ≡ false → bit b q ≡ true → IsStrictSubset a b
within_by a b l s q lacks has =
    (⊎_elim (λ lt. lt) (λ ge. absurd (false≢true (sym lacks ∙ (ap (λ r. bit r q) (subset-same a b l s ge) ∙ has)))) (cases_lt (size a) (size b)), s)

-- a larger set has a number that the smaller lacks
pub extra : (a b : List Bool) → size a < size b → (q : ℕ) × (bit a q ≡ false) × (bit b q ≡ true)
extra a [] lt = absurd (omega (arith, lt))
extra [] (true ∷ b) lt = (0, refl, refl)
extra [] (false ∷ b) lt = let h = extra [] b (omega (arith, lt, size-false b)) in (suc h.0, refl, h.2)
extra (true ∷ a) (true ∷ b) lt = let h = extra a b (omega (arith, lt, size-true a, size-true b)) in (suc h.0, h.1, h.2)
extra (true ∷ a) (false ∷ b) lt = let h = extra a b (omega (arith, lt, size-true a, size-false b)) in (suc h.0, h.1, h.2)
extra (false ∷ a) (true ∷ b) lt = (0, refl, refl)
extra (false ∷ a) (false ∷ b) lt = let h = extra a b (omega (arith, lt, size-false a, size-false b)) in (suc h.0, h.1, h.2)

module _ (E : List (List Bool)) (k : ℕ) where
  -- the upper covers are the least candidates
  pub cover_is_least : (n : ℕ) (numbers : List ℕ) → ((i : ℕ) → i < length E → length (row E i) ≡ n) → ((i j : ℕ) → i < length E → j < length E
      → row E i ≡ row E j → i ≡ j)
      → AreCandidates E k n numbers → (j : ℕ) → j < length E → ((Contains numbers j × IsLeast E numbers j) ↔ IsUpperCover E k j)
  cover_is_least n numbers len same are j jlt = (
    λ h. record {
      above = All-contains (λ i. IsStrictSubset (row E k) (row E i)) numbers j are.above h.0;
      none = λ m mlt over under.
          let e = extra (row E k) (row E m) over.0 in
          let d = are.each e.0 (omega (arith, bit-below (row E m) e.0 e.2, len m mlt)) e.1 in
          let sub = d.2 m mlt over.1 e.2 in
          let within : IsStrictSubset (row E d.0) (row E j) = (omega (arith, size-subset (row E d.0) (row E m) sub, under.0), λ s b. under.1 s (sub s b)) in
          All-contains (λ i. IsStrictSubset (row E i) (row E j) → ⊥) numbers d.0 h.1 d.1 within;
    },
    λ u.
        let e = extra (row E k) (row E j) u.above.0 in
        let d = are.each e.0 (omega (arith, bit-below (row E j) e.0 e.2, len j jlt)) e.1 in
        let sub = d.2 j jlt u.above.1 e.2 in
        let below : d.0 < length E = All-contains (λ i. i < length E) numbers d.0 are.below d.1 in
        let over = All-contains (λ i. IsStrictSubset (row E k) (row E i)) numbers d.0 are.above d.1 in
        let is : d.0 ≡ j =
        ⊎_elim
        (λ lt. absurd (u.none d.0 below over (lt, sub)))
        (λ ge. same d.0 j below jlt (subset-same (row E d.0) (row E j) (len d.0 below ∙ sym (len j jlt)) sub ge))
        (cases_lt (size (row E d.0)) (size (row E j))) in (
          subst (Contains numbers) is d.1,
          λ m x mlt within. u.none (get_or numbers m x) (are.below m x mlt) (are.above m x mlt) within,
        ),
  )

  -- a closure with a row that has no less of the intent than r is within each extent above k that has r
  pub AreCandidates-all : (T : List (List Bool)) (w : ℕ) (xs : List Pair) (m : ℕ) (near numbers : List ℕ) → E ≡ extents_of xs → AreConcepts T w xs
      → k < length xs → AreNear T (get_or xs k nothing).0 (get_or xs k nothing).1 near → m ≡ length near → length numbers ≡ m
      → ((i d : ℕ) → i < m → IsClosure E k (get_or near i d) (get_or numbers i d)) → AreCandidates E k (length T) numbers
  AreCandidates-all T w xs m near numbers e are klt n mlen len closure =
      let x = get_or xs k nothing in
      let c = are.each k nothing klt in
      let at = λ (j : ℕ) (lt : j < length xs). ap (λ l. row l j) e ∙ row-extents_of xs j nothing lt in
      let long : length E ≡ length xs = ap length e ∙ length-map xs (λ (u : Pair). u.0) in
      record {
        below = λ i d lt. (closure i d (omega (arith, lt, len))).below;
        above = λ i d lt.
            let o = closure i d (omega (arith, lt, len)) in
            let j = get_or numbers i d in
            let jlt : j < length xs = omega (arith, o.below, long) in
            let q = get_or near i d in
            within_by (row E k) (row E j) (ap length (at k klt) ∙ (c.extent.len ∙ sym (ap length (at j jlt) ∙ (are.each j nothing jlt).extent.len)))
            o.holds q (ap (λ s. bit s q) (at k klt) ∙ n.lacks i d (omega (arith, lt, len, mlen))) o.has;
        each = λ r rlt lacks.
            let h = n.each r rlt (sym (ap (λ s. bit s r) (at k klt)) ∙ lacks) in
            let q = h.0 in
            let i = h.1.0 in
            let qlt : q < length T = All-contains (λ s. s < length T) near q n.below h.1 in
            let o = subst (λ s. IsClosure E k s (get_or numbers i q)) h.1.2 (closure i q (omega (arith, h.1.1, mlen))) in (
              get_or numbers i q,
              Contains-get_or numbers i q (omega (arith, h.1.1, mlen, len)),
              λ j jlt over has.
                  let below : j < length xs = omega (arith, jlt, long) in
                  let u = get_or xs j nothing in
                  let more : bit u.0 q ≡ true = near-has T w x u c (are.each j nothing below) (rw (at k klt, at j below) at over) r q rlt qlt h.2
                  (sym (ap (λ s. bit s r) (at j below)) ∙ has) in
                  o.least j jlt over (ap (λ s. bit s q) (at j below) ∙ more),
            );
      }
