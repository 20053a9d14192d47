-- A row and a column that some row has each make a concept of the table, and so each has its place at the start.
use Rattle.std.proofs.Common.{◌≡◌, ℕ, ◌<◌, ◌&&◌, Bool, true, false, List, [], length, map, Option, Some, None, refl, sym, ap, ◌∙◌, subst, arith}
use Rattle.std.specs.List.{range_with_len}
use Rattle.std.proofs.lemmas.Bool.{and_from}
use Rattle.std.proofs.lemmas.List.{length-map}
use Rattle.std.proofs.lemmas.List.FromFn.{get_or-map-range_with_len, length-map-range_with_len}
use Rattle.kaba_base.specs.declared.NodeId.{NodeId}
use Rattle.kaba_base.proofs.TestLemmas.{same_truth}
use Rattle.kaba_bits.specs.Sets.{bit, row, HasWidth, when}
use Rattle.kaba_bits.proofs.SetLemmas.{bit-below, same_bits, subset-both}
use Rattle.kaba_bits.proofs.FirstLemmas.{first_below_None}
use Rattle.kaba_bits.proofs.RowLemmas.{bit-row-below}
use Rattle.fact_model.specs.Concepts.{Pair, IsExtent, IsConcept, AreAllConcepts}
use Rattle.hier_model.specs.Hierarchies.{node}
use Rattle.hier_model.specs.Start.{is_filled, is_subset, is_same_set, rows_with, concept_at, column_place, row_place}
use Rattle.hier_model.proofs.SetTests.{filled-has, subset-sound, subset-complete}
use Rattle.hier_model.proofs.StartLemmas as model
use Rattle.hier_model.proofs.StartLemmas.{rows_with-bit}

same_test : (a b : List Bool) → a ≡ b → is_same_set a b ≡ true
same_test a b e = subst (λ x. is_same_set a x ≡ true) e (and_from (is_subset a a) (is_subset a a) (subset-complete a a (λ i h. h))
    (subset-complete a a (λ i h. h)))

-- the rows that have a column
with_len : (T : List (List Bool)) (c : ℕ) → length (rows_with T c) ≡ length T
with_len T c = length-map T (λ (x : List Bool). bit x c)

module _ (T : List (List Bool)) (w : ℕ) (widths : HasWidth w T) where
  same_extent : (A C B : List Bool) → IsExtent T A B → IsExtent T C B → A ≡ C
  same_extent A C B e f =
      same_bits A C (e.len ∙ sym f.len) (λ r lt.
      let below : r < length T = omega (arith, lt, e.len) in
      same_truth (bit A r) (bit C r) (λ a. (f.rows r below).1 ((e.rows r below).0 a)) (λ c. (e.rows r below).1 ((f.rows r below).0 c)))

  -- the columns that all rows of a set have
  abbrev pub common : List Bool → List Bool
  common A = map (λ d. is_subset A (rows_with T d)) (range_with_len 0 w)

  common_len : (A : List Bool) → length (common A) ≡ w
  common_len A = length-map-range_with_len (λ d. is_subset A (rows_with T d)) 0 w

  common_bit : (A : List Bool) (d : ℕ) → d < w → bit (common A) d ≡ is_subset A (rows_with T d)
  common_bit A d lt = get_or-map-range_with_len (λ d. is_subset A (rows_with T d)) 0 w d d false lt (omega arith)

  -- a column of a row is one of the table
  pub column_below : (r c : ℕ) → bit (row T r) c ≡ true → c < w
  column_below r c h = let a = bit-below (row T r) c h in let b = widths r (bit-row-below T r c h) in omega (arith, a, b)

  -- the rows that have a column are an extent
  pub column_concept : (c : ℕ) → c < w → IsConcept T w (rows_with T c) (common (rows_with T c))
  column_concept c lt = record {
    extent = record {
      len = with_len T c;
      rows = λ r rlt. (
        λ h d k. sym (rows_with-bit T d r)
            ∙ subset-sound (rows_with T c) (rows_with T d)
            (sym (common_bit (rows_with T c) d (omega (arith, bit-below (common (rows_with T c)) d k, common_len (rows_with T c)))) ∙ k) r h,
        λ s. rows_with-bit T c r ∙ s c (common_bit (rows_with T c) c lt ∙ subset-complete (rows_with T c) (rows_with T c) (λ i h. h)),
      );
    };
    intent = record {
      len = common_len (rows_with T c);
      columns = λ d below. (
        λ h r rlt k. sym (rows_with-bit T d r) ∙ subset-sound (rows_with T c) (rows_with T d) (sym (common_bit (rows_with T c) d below) ∙ h) r k,
        λ all. common_bit (rows_with T c) d below
            ∙ subset-complete (rows_with T c) (rows_with T d) (λ r k. rows_with-bit T d r
            ∙ all r (omega (arith, bit-below (rows_with T c) r k, with_len T c)) k),
      );
    };
  }

  module _ (ps : List Pair) (A : AreAllConcepts T w ps) where
    pub concept_is : (k : ℕ) → k < length ps → IsConcept T w (concept_at ps k).0 (concept_at ps k).1
    concept_is k lt = A.concepts.each k ([], []) lt

    -- a row of the table stands at a concept whose intent is the row
    pub record RowStands (r : ℕ) : Type 0 where
      pub at : ℕ
      pub below : at < length ps
      pub intent : (concept_at ps at).1 ≡ row T r
      pub place : row_place ps (row T r) ≡ node at

    pub row_stands : (r : ℕ) → r < length T → RowStands r
    row_stands r lt =
        let k = (row_place ps (row T r)).0 in
        let s = model.row_stands T w widths ps A r lt in
        record {
          at = k;
          below = s.below;
          intent = subset-both (concept_at ps k).1 (row T r) ((concept_is k s.below).intent.len ∙ sym (widths r lt)) s.within s.holds;
          place = refl;
        }

    -- a column that some row has stands at a concept whose extent is the rows that have it
    pub record ColumnStands (c : ℕ) (p : NodeId) : Type 0 where
      pub below : p.0 < length ps
      pub extent : (concept_at ps p.0).0 ≡ rows_with T c
      pub filled : is_filled (rows_with T c) ≡ true

    pub column_says : (c : ℕ) (p : NodeId) → column_place T ps c ≡ Some p → ColumnStands c p
    column_says c p e =
        let s = model.column_stands T w widths ps A c p e in
        record {
          below = s.below;
          extent = subset-both (concept_at ps p.0).0 (rows_with T c) ((concept_is p.0 s.below).extent.len ∙ sym (with_len T c)) s.within s.holds;
          filled = s.filled;
        }

    pub column_stands : (r c : ℕ) → bit (row T r) c ≡ true → (p : NodeId) × (column_place T ps c ≡ Some p)
    column_stands r c h = found (column_place T ps c) refl
      where
        lt : c < w
        lt = column_below r c h

        found : (o : Option NodeId) → column_place T ps c ≡ o → (p : NodeId) × (column_place T ps c ≡ Some p)
        found (Some p) e = (p, e)
        found None e =
            let f : ℕ → Option NodeId = λ k. when (is_filled (rows_with T c) && is_same_set (concept_at ps k).0 (rows_with T c)) (node k) in
            let k = A.complete (rows_with T c) (common (rows_with T c)) (column_concept c lt) in
            let none = first_below_None f (length ps) k.at e k.below in
            let is = concept_is k.at k.below in
            let ext : IsExtent T (concept_at ps k.at).0 (common (rows_with T c)) = subst (IsExtent T (concept_at ps k.at).0) (k.is ([], [])) is.extent in
            let one = same_extent (concept_at ps k.at).0 (rows_with T c) (common (rows_with T c)) ext (column_concept c lt).extent in
            let filled = filled-has (rows_with T c) r (rows_with-bit T c r ∙ h) in
            let both = and_from (is_filled (rows_with T c)) (is_same_set (concept_at ps k.at).0 (rows_with T c)) filled
            (same_test (concept_at ps k.at).0 (rows_with T c) one) in
            absurd (cc (none, ap (λ b. when b (node k.at)) both))
