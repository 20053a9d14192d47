use Rattle.std.proofs.Common.{◌≡◌, ⊎_elim, ℕ, ◌<◌, Bool, true, false, List, [], length, map, get_or, sym, ap, ◌∙◌, subst, arith}
use Rattle.std.specs.Prelude.{Contains, ◌==◌}
use Rattle.std.specs.declared.cmp.Ordering.TheVariants.{Less, Equal}
use Rattle.std.proofs.lemmas.Bool.{cases_order, and_from, eqb-true, eq-eqb}
use Rattle.std.proofs.lemmas.Cmp.{tied_itself}
use Rattle.std.proofs.lemmas.List.{get_or-map, length-map}
use Rattle.kaba_base.proofs.TestLemmas.{same_truth}
use Rattle.kaba_bits.specs.Sets.{bit, row, size, rising}
use Rattle.kaba_bits.proofs.SetLemmas.{same_bits, subset-same}
use Rattle.kaba_bits.proofs.RisingLemmas.{rising_from-same}
use Rattle.fact_model.specs.Concepts.{Pair, IsExtent, IsIntent, IsConcept, concept_cmp, AreConcepts, AreAllConcepts, HasIntent}
use Rattle.concept_build.specs.Tables.{IsMeet}
use Rattle.concept_build.specs.Lists.{extents_of, columns_of, AreDifferent, IsClosure}
use Rattle.concept_build.proofs.OrderLemmas.{concept_cmp-total}
use Rattle.concept_build.proofs.MadeLemmas.{meet, IsMeet-meet, meet-left, meet-right, closed-meet, closed-concept, concept-closed}
use Rattle.concept_build.proofs.MeetLemmas.{same_extent, same_intents, meet-holds, meet-has, meet-least}

abbrev pub nothing : Pair
nothing = ([], [])

pub row-extents_of : (xs : List Pair) (k : ℕ) (d : Pair) → k < length xs → row (extents_of xs) k ≡ (get_or xs k d).0
row-extents_of xs k d lt = get_or-map (λ (x : Pair). x.0) xs k d [] lt

pub column-columns_of : (xs : List Pair) (k : ℕ) (d : List ℕ) → k < length xs → get_or (columns_of xs) k d ≡ rising (get_or xs k nothing).1
column-columns_of xs k d lt = get_or-map (λ (x : Pair). rising x.1) xs k nothing d lt

module _ (T : List (List Bool)) (w : ℕ) where
  module _ (xs : List Pair) (are : AreConcepts T w xs) where
    pub extent_len : (k : ℕ) → k < length xs → length (row (extents_of xs) k) ≡ length T
    extent_len k lt = ap length (row-extents_of xs k nothing lt) ∙ (are.each k nothing lt).extent.len

    apart : (i j : ℕ) → i < j → j < length xs → row (extents_of xs) i ≡ row (extents_of xs) j → ⊥
    apart i j ij lt e =
        let a = get_or xs i nothing in
        let b = get_or xs j nothing in
        let p = are.each i nothing (omega (arith, ij, lt)) in
        let q = are.each j nothing lt in
        let f : a.0 ≡ b.0 = sym (row-extents_of xs i nothing (omega (arith, ij, lt))) ∙ (e ∙ row-extents_of xs j nothing lt) in
        let g : a.1 ≡ b.1 = same_intents T w b.0 a.1 b.1 (subst (λ A. IsIntent T w A a.1) f p.intent) q.intent in
        let h : a ≡ b = λ i. (f i, g i) in
        let k : concept_cmp b b ≡ Less = subst (λ x. concept_cmp x b ≡ Less) h (are.ordered i j nothing ij lt) in
        let m : Equal ≡ Less = sym (tied_itself concept_cmp-total b) ∙ k in
        cc

    -- different numbers have different extents
    pub same_number : (i j : ℕ) → i < length xs → j < length xs → row (extents_of xs) i ≡ row (extents_of xs) j → i ≡ j
    same_number i j ilt jlt e =
        ⊎_elim (λ s. s) (⊎_elim (λ lt. absurd (apart i j lt jlt e)) (λ gt. absurd (apart j i gt ilt (sym e)))) (cases_order i j)

  -- different numbers have different columns
  pub columns-differ : (xs : List Pair) → AreConcepts T w xs → AreDifferent (columns_of xs)
  columns-differ xs are i j d ij lt e =
      let len = length-map xs (λ (x : Pair). rising x.1) in
      let jlt : j < length xs = omega (arith, lt, len) in
      let ilt : i < length xs = omega (arith, ij, jlt) in
      let a = get_or xs i nothing in
      let b = get_or xs j nothing in
      let p = are.each i nothing ilt in
      let q = are.each j nothing jlt in
      let f : a.1 ≡ b.1 = rising_from-same 0 a.1 b.1 (p.intent.len ∙ sym q.intent.len) (sym (column-columns_of xs i d ilt)
      ∙ (e ∙ column-columns_of xs j d jlt)) in
      let g : a.0 ≡ b.0 = same_extent T w a.0 b.0 b.1 (subst (IsExtent T a.0) f p.extent) q.extent in
      let h : i ≡ j = same_number xs are i j ilt jlt (row-extents_of xs i nothing ilt ∙ (g ∙ sym (row-extents_of xs j nothing jlt))) in
      omega (arith, h, ij)

  -- the rows that have all columns of a set
  abbrev extent : List Bool → List Bool
  extent B = map (λ r. size (meet B r) == size B) T

  IsExtent-extent : (B : List Bool) → IsExtent T (extent B) B
  IsExtent-extent B = record {
    len = length-map T (λ r. size (meet B r) == size B);
    rows = λ r lt.
        let R = row T r in
        let m = IsMeet-meet B R in
        let at : bit (extent B) r ≡ (size (meet B R) == size B) = get_or-map (λ r. size (meet B r) == size B) T r [] false lt in (
          λ h.
              let e : size (meet B R) ≡ size B = eqb-true (size (meet B R)) (size B) (sym at ∙ h) in
              let f : meet B R ≡ B = subset-same (meet B R) B m.len (meet-left (meet B R) B R m) (omega (arith, e)) in
              λ i b. meet-right (meet B R) B R m i (subst (λ s. bit s i ≡ true) (sym f) b),
          λ s.
              let f : meet B R ≡ B = same_bits (meet B R) B m.len (λ i ilt. same_truth (bit (meet B R) i) (bit B i) (meet-left (meet B R) B R m i)
              (λ b. m.bits i ∙ and_from (bit B i) (bit R i) b (s i b))) in
              at ∙ eq-eqb (size (meet B R)) (size B) (ap size f),
        );
  }

  -- the concept whose intent is that of the extent at k without what the row q lacks
  module _ (xs : List Pair) (all : AreAllConcepts T w xs) (k q : ℕ) (klt : k < length xs) (qlt : q < length T) where
    abbrev pub y : Pair
    y = get_or xs k nothing

    c : IsConcept T w y.0 y.1
    c = all.concepts.each k nothing klt

    -- it is in the list
    pub meet-there : HasIntent xs (meet y.1 (row T q))
    meet-there =
        let B = meet y.1 (row T q) in
        all.complete (extent B) B (concept-closed T w (extent B) B (IsExtent-extent B) (closed-meet T w q B y.1 qlt (closed-concept T w y.0 y.1 c)
        (IsMeet-meet y.1 (row T q))))

    pub columns-there : Contains (columns_of xs) (rising (meet y.1 (row T q)))
    columns-there =
        let h = meet-there in
        let len = length-map xs (λ (x : Pair). rising x.1) in
        (h.at, omega (arith, h.below, len), column-columns_of xs h.at (rising (meet y.1 (row T q))) h.below ∙ ap rising (h.is nothing))

    module _ (i : ℕ) (lt : i < length xs) (same : get_or (columns_of xs) i [] ≡ rising (meet y.1 (row T q))) where
      abbrev z : Pair
      z = get_or xs i nothing

      p : IsConcept T w z.0 z.1
      p = all.concepts.each i nothing lt

      meet-z : IsMeet z.1 y.1 (row T q)
      meet-z =
          let m = IsMeet-meet y.1 (row T q) in
          let e : z.1 ≡ meet y.1 (row T q) = rising_from-same 0 z.1 (meet y.1 (row T q)) (p.intent.len ∙ sym (m.len ∙ c.intent.len))
          (sym (column-columns_of xs i [] lt) ∙ same) in
          subst (λ B. IsMeet B y.1 (row T q)) (sym e) m

      pub closure-found : IsClosure (extents_of xs) k q i
      closure-found =
          let at_k = row-extents_of xs k nothing klt in
          let at_i = row-extents_of xs i nothing lt in
          let len = length-map xs (λ (u : Pair). u.0) in
          record {
            below = omega (arith, len, lt);
            holds = rw (at_k, at_i) (meet-holds T w y z q c p qlt meet-z);
            has = rw at_i (meet-has T w y z q c p qlt meet-z);
            least = λ j jlt over has.
                let below : j < length xs = omega (arith, len, jlt) in
                let at_j = row-extents_of xs j nothing below in
                rw (at_i, at_j) (meet-least T w y z q c p qlt meet-z (get_or xs j nothing) (all.concepts.each j nothing below)
                (rw (at_k, at_j) at over) (rw at_j at has));
          }
