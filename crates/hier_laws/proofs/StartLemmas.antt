-- The start's order and places, by what the rows of the table have.
use Rattle.std.proofs.Common.{◌≡◌, ◌≢◌, ℕ, ◌+◌, ◌<◌, ◌≤◌, ◌&&◌, Bool, true, false, List, [], length, map, get_or, Option, Some, None, refl, sym, ap, ◌∙◌, subst, arith, rules, ⊎_elim}
use Rattle.std.specs.Prelude.{nat_lt}
use Rattle.std.specs.Option.{option_map}
use Rattle.std.specs.List.{range_with_len}
use Rattle.std.proofs.lemmas.Bool.{cases_lt, cases_order, false≢true, and_parts, and_from}
use Rattle.std.proofs.lemmas.List.{get_or-map, length-map, get_or_past}
use Rattle.std.proofs.lemmas.List.FromFn.{get_or-map-range_with_len, length-map-range_with_len}
use Rattle.kaba_base.specs.declared.NodeId.{NodeId}
use Rattle.kaba_bits.specs.Sets.{bit, row, HasWidth, IsSubset}
use Rattle.kaba_bits.proofs.SetLemmas.{bit-below, subset-both}
use Rattle.kaba_bits.proofs.RowLemmas.{bit-row-below}
use Rattle.std.specs.declared.cmp.Ordering.TheVariants.{Less, Equal}
use Rattle.std.specs.Cmp.{IsTotalOrder}
use Rattle.std.specs.Cmp.Rules.{comparing}
use Rattle.std.proofs.lemmas.Cmp.{tied_itself}
use Rattle.kaba_order.specs.Orders.{Ordered, is_le, is_live, IsPartialOrder}
use Rattle.fact_model.specs.Concepts.{Pair, IsConcept, AreAllConcepts, concept_cmp}
use Rattle.fact_model.specs.declared.facts.Facts.{Facts}
use Rattle.hier_model.specs.Hierarchies.{Hierarchy, node, place_of_column, place_of_row}
use Rattle.hier_model.specs.Start.{is_filled, is_subset, rows_with, concept_at, order_of, column_place, row_place, start_of}
use Rattle.hier_model.proofs.SetTests.{filled-some, filled-has, subset-sound, subset-complete}
use Rattle.hier_model.proofs.StartLemmas.{rows_with-bit, node-le, order_partial}
use Rattle.hier_laws.proofs.ConceptLemmas.{concept_is, RowStands, row_stands, ColumnStands, column_says, column_stands}

module _ (T : List (List Bool)) (w : ℕ) (widths : HasWidth w T) (ps : List Pair) (A : AreAllConcepts T w ps) where
  abbrev pub extent_at : ℕ → List Bool
  extent_at k = (concept_at ps k).0

  -- what it says that a node is at or below another
  pub record IsLe (a b : ℕ) : Type 0 where
    pub lower : a < length ps
    pub upper : b < length ps
    pub filled : is_filled (extent_at a) ≡ true
    pub subset : IsSubset (extent_at a) (extent_at b)

  le_width : (k : Pair) → length (map (λ (l : Pair). is_filled k.0 && is_subset k.0 l.0) ps) ≡ length ps
  le_width k = length-map ps (λ (l : Pair). is_filled k.0 && is_subset k.0 l.0)

  pub le_says : (a b : ℕ) → is_le (order_of ps) a b ≡ true → IsLe a b
  le_says a b h =
      let rows_len = length-map ps (λ (k : Pair). map (λ (l : Pair). is_filled k.0 && is_subset k.0 l.0) ps) in
      let la : a < length ps = omega (arith, bit-row-below (order_of ps).le a b h, rows_len) in
      let row_is = get_or-map (λ (k : Pair). map (λ (l : Pair). is_filled k.0 && is_subset k.0 l.0) ps) ps a ([], []) [] la in
      let lb : b < length ps = omega (arith, bit-below (row (order_of ps).le a) b h, ap length row_is, le_width (concept_at ps a)) in
      let both = and_parts (is_filled (extent_at a)) (is_subset (extent_at a) (extent_at b)) (sym (node-le T w widths ps A a b la lb) ∙ h) in
      record { lower = la; upper = lb; filled = both.0; subset = subset-sound (extent_at a) (extent_at b) both.1 }

  pub le_test : (a b : ℕ) → IsLe a b → is_le (order_of ps) a b ≡ true
  le_test a b h =
      node-le T w widths ps A a b h.lower h.upper ∙ and_from (is_filled (extent_at a)) (is_subset (extent_at a) (extent_at b)) h.filled
      (subset-complete (extent_at a) (extent_at b) h.subset)

  is : (k : ℕ) → k < length ps → IsConcept T w (extent_at k) (concept_at ps k).1
  is = concept_is T w widths ps A

  -- the node of a row
  pub node_of : (r : ℕ) → r < length T → RowStands T w widths ps A r
  node_of = row_stands T w widths ps A

  -- a row is in the extent of a node exactly where it has all of the node's row
  pub in_row_extent : (r v : ℕ) (lr : r < length T) → v < length T → ((bit (extent_at (node_of r lr).at) v ≡ true) → IsSubset (row T r) (row T v))
      × (IsSubset (row T r) (row T v) → bit (extent_at (node_of r lr).at) v ≡ true)
  in_row_extent r v lr lv =
      let n = node_of r lr in
      let e = (is n.at n.below).extent.rows v lv in
      (λ h. subst (λ B. IsSubset B (row T v)) n.intent (e.0 h), λ s. e.1 (subst (λ B. IsSubset B (row T v)) (sym n.intent) s))

  pub row_filled : (r : ℕ) (lr : r < length T) → is_filled (extent_at (node_of r lr).at) ≡ true
  row_filled r lr = filled-has (extent_at (node_of r lr).at) r ((in_row_extent r r lr lr).1 (λ i h. h))

  pub in_table : (k v : ℕ) → k < length ps → bit (extent_at k) v ≡ true → v < length T
  in_table k v lt h = omega (arith, bit-below (extent_at k) v h, (is k lt).extent.len)

  pub rows_le : (r v : ℕ) (lr : r < length T) (lv : v < length T)
      → (is_le (order_of ps) (node_of r lr).at (node_of v lv).at ≡ true → IsSubset (row T v) (row T r)) × (IsSubset (row T v) (row T r)
      → is_le (order_of ps) (node_of r lr).at (node_of v lv).at ≡ true)
  rows_le r v lr lv = (
    λ h. (in_row_extent v r lv lr).0 ((le_says (node_of r lr).at (node_of v lv).at h).subset r ((in_row_extent r r lr lr).1 (λ i k. k))),
    λ s. le_test (node_of r lr).at (node_of v lv).at (record {
      lower = (node_of r lr).below;
      upper = (node_of v lv).below;
      filled = row_filled r lr;
      subset = λ x h.
          let lx = in_table (node_of r lr).at x (node_of r lr).below h in
          (in_row_extent v x lv lx).1 (λ c k. (in_row_extent r x lr lx).0 h c (s c k));
    }),
  )

  abbrev At : ℕ → NodeId → Type 0
  At c p = column_place T ps c ≡ Some p

  column : (c : ℕ) (p : NodeId) → At c p → ColumnStands T w widths ps A c p
  column = column_says T w widths ps A

  in_column : (c v : ℕ) (p : NodeId) → At c p → (bit (extent_at p.0) v ≡ true → bit (row T v) c ≡ true)
      × (bit (row T v) c ≡ true → bit (extent_at p.0) v ≡ true)
  in_column c v p at =
      let e = (column c p at).extent in
      (λ h. sym (rows_with-bit T c v) ∙ (ap (λ (x : List Bool). bit x v) (sym e) ∙ h), λ h. ap (λ (x : List Bool). bit x v) e ∙ (rows_with-bit T c v ∙ h))

  pub column_filled : (c : ℕ) (p : NodeId) → At c p → is_filled (extent_at p.0) ≡ true
  column_filled c p at = ap is_filled (column c p at).extent ∙ (column c p at).filled

  pub row_column_le : (r c : ℕ) (lr : r < length T) (p : NodeId) → At c p
      → (is_le (order_of ps) (node_of r lr).at p.0 ≡ true → bit (row T r) c ≡ true)
      × (bit (row T r) c ≡ true → is_le (order_of ps) (node_of r lr).at p.0 ≡ true)
  row_column_le r c lr p at = (
    λ h. (in_column c r p at).0 ((le_says (node_of r lr).at p.0 h).subset r ((in_row_extent r r lr lr).1 (λ i k. k))),
    λ h. le_test (node_of r lr).at p.0 (record {
      lower = (node_of r lr).below;
      upper = (column c p at).below;
      filled = row_filled r lr;
      subset = λ x k. (in_column c x p at).1 ((in_row_extent r x lr (in_table (node_of r lr).at x (node_of r lr).below k)).0 k c h);
    }),
  )

  pub columns_le : (c d : ℕ) (p q : NodeId) → At c p → At d q
      → (is_le (order_of ps) p.0 q.0 ≡ true → (r : ℕ) → bit (row T r) c ≡ true → bit (row T r) d ≡ true)
      × (((r : ℕ) → bit (row T r) c ≡ true → bit (row T r) d ≡ true) → is_le (order_of ps) p.0 q.0 ≡ true)
  columns_le c d p q ac ad = (
    λ h r k. (in_column d r q ad).0 ((le_says p.0 q.0 h).subset r ((in_column c r p ac).1 k)),
    λ all. le_test p.0 q.0 (record {
      lower = (column c p ac).below;
      upper = (column d q ad).below;
      filled = column_filled c p ac;
      subset = λ x k. (in_column d x q ad).1 (all x ((in_column c x p ac).0 k));
    }),
  )

  pub column_row_le : (c r : ℕ) (p : NodeId) (lr : r < length T) → At c p
      → (is_le (order_of ps) p.0 (node_of r lr).at ≡ true → (v : ℕ) → bit (row T v) c ≡ true → IsSubset (row T r) (row T v))
      × (((v : ℕ) → bit (row T v) c ≡ true → IsSubset (row T r) (row T v)) → is_le (order_of ps) p.0 (node_of r lr).at ≡ true)
  column_row_le c r p lr at = (
    λ h v k. (in_row_extent r v lr (bit-row-below T v c k)).0 ((le_says p.0 (node_of r lr).at h).subset v ((in_column c v p at).1 k)),
    λ all. le_test p.0 (node_of r lr).at (record {
      lower = (column c p at).below;
      upper = (node_of r lr).below;
      filled = column_filled c p at;
      subset = λ x k. (in_row_extent r x lr (in_table p.0 x (column c p at).below k)).1 (all x ((in_column c x p at).0 k));
    }),
  )

  -- each node at or below one has a row
  pub some_row : (n m : ℕ) → is_le (order_of ps) n m ≡ true → (r : ℕ) × (lr : r < length T) × (is_le (order_of ps) (node_of r lr).at n ≡ true)
  some_row n m h =
      let le = le_says n m h in
      let v = filled-some (extent_at n) le.filled in
      let lv = in_table n v.0 le.lower v.1 in
      let has = ((is n le.lower).extent.rows v.0 lv).0 v.1 in (
        v.0,
        lv,
        le_test (node_of v.0 lv).at n (record {
          lower = (node_of v.0 lv).below;
          upper = le.lower;
          filled = row_filled v.0 lv;
          subset = λ x k.
              let lx = in_table (node_of v.0 lv).at x (node_of v.0 lv).below k in
              ((is n le.lower).extent.rows x lx).1 (λ c g. (in_row_extent v.0 x lv lx).0 k c (has c g));
        }),
      )

  -- the nodes are partially ordered by their extents
  pub nodes_ordered : IsPartialOrder (order_of ps)
  nodes_ordered = order_partial T w widths ps A
