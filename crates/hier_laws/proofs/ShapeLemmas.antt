-- The start as an order with places.
use Rattle.std.proofs.Common.{◌≡◌, ℕ, ◌<◌, Bool, true, List, [], length, map, Option, Some, None, sym, ap, ◌∙◌, subst, arith, ⊎_elim}
use Rattle.std.specs.Prelude.{nat_lt}
use Rattle.std.specs.Option.{option_map}
use Rattle.std.proofs.lemmas.Bool.{cases_lt, ltb-true, lt-ltb}
use Rattle.std.proofs.lemmas.List.{get_or-map, get_or_past}
use Rattle.std.proofs.lemmas.List.FromFn.{get_or-map-range_with_len, length-map-range_with_len}
use Rattle.kaba_base.specs.declared.NodeId.{NodeId}
use Rattle.kaba_bits.specs.Sets.{bit, row, HasWidth}
use Rattle.kaba_order.specs.Orders.{is_le}
use Rattle.fact_model.specs.Concepts.{Pair, pair_of, AreAllConcepts, IsLatticeOf}
use Rattle.fact_model.specs.Entries.{IsTable}
use Rattle.fact_model.specs.declared.facts.Facts.{Facts}
use Rattle.fact_model.specs.declared.sets.PointsTo.{PointsTo}
use Rattle.fact_model.specs.declared.sets.Table.{Table}
use Rattle.fact_model.specs.declared.sets.Lattice.{Lattice}
use Rattle.hier_model.specs.Hierarchies.{Hierarchy, node, place_of_column, place_of_row}
use Rattle.hier_model.specs.Start.{column_place, row_place, start_from}
use Rattle.hier_laws.specs.Shapes.{Shape}
use Rattle.hier_laws.specs.Starts.{IsStart}
use Rattle.hier_laws.proofs.ConceptLemmas.{column_below, RowStands, column_stands}
use Rattle.hier_laws.proofs.StartLemmas.{node_of, rows_le, row_column_le, columns_le, column_row_le, some_row, nodes_ordered}
use Rattle.hier_laws.proofs.GivenLemmas.{given}

abbrev pub shape : Hierarchy → Shape
shape H = record {
  le = is_le H.order;
  column = λ c. option_map (λ (p : NodeId). p.0) (place_of_column H c);
  row = place_of_row H;
}

-- the node of a column that stands somewhere
pub placed : (H : Hierarchy) (c n : ℕ) → option_map (λ (p : NodeId). p.0) (place_of_column H c) ≡ Some n → place_of_column H c ≡ Some (node n)
placed H c n e = at (place_of_column H c) e
  where
    at : (o : Option NodeId) → option_map (λ (p : NodeId). p.0) o ≡ Some n → o ≡ Some (node n)
    at None h = absurd (cc h)
    at (Some p) h = let k : p.0 ≡ n = cc in ap (λ x. Some (node x)) k

module _ (F : Facts) (pt : PointsTo) (t : Table) (l : Lattice) (T : IsTable F t) (L : IsLatticeOf t l) where
  abbrev ps : List Pair
  ps = map pair_of l.concepts.items

  abbrev rows : List (List Bool)
  rows = t.rows.items

  abbrev H : Hierarchy
  H = start_from F t l

  abbrev widths : HasWidth t.width rows
  widths = T.sized.widths

  abbrev all : AreAllConcepts rows t.width ps
  all = L.all

  in_rows : (r : ℕ) → nat_lt r (length F.rows.items) ≡ true → r < length rows
  in_rows r h = omega (arith, ltb-true r (length F.rows.items) h, T.sized.rows)

  abbrev stands : (r : ℕ) → r < length rows → RowStands rows t.width widths ps all r
  stands r lt = node_of rows t.width widths ps all r lt

  row_node : (r : ℕ) (lt : r < length rows) → place_of_row H r ≡ (stands r lt).at
  row_node r lt = ap (λ (p : NodeId). p.0) (get_or-map (row_place ps) rows r [] (node 0) lt ∙ (stands r lt).place)

  column_node : (c : ℕ) (p : NodeId) → place_of_column H c ≡ Some p → column_place rows ps c ≡ Some p
  column_node c p e =
      ⊎_elim
      (λ lt. sym (get_or-map-range_with_len (column_place rows ps) 0 (length F.columns.items) c c None lt (omega arith)) ∙ e)
      (λ past. absurd (cc (e, get_or_past H.columns c None (omega (arith, past, length-map-range_with_len (column_place rows ps) 0 (length F.columns.items))))))
      (cases_lt c (length F.columns.items))

  at : (c n : ℕ) → option_map (λ (p : NodeId). p.0) (place_of_column H c) ≡ Some n → column_place rows ps c ≡ Some (node n)
  at c n e = column_node c (node n) (placed H c n e)

  there : (r c : ℕ) → bit (row rows r) c ≡ true → (n : ℕ) × (option_map (λ (p : NodeId). p.0) (place_of_column H c) ≡ Some n)
  there r c h =
      let p = column_stands rows t.width widths ps all r c h in
      let lt : c < length F.columns.items = omega (arith, column_below rows t.width widths r c h, T.sized.columns) in (
        p.0.0,
        ap (option_map (λ (p : NodeId). p.0)) (get_or-map-range_with_len (column_place rows ps) 0 (length F.columns.items) c c None lt
            (omega arith) ∙ p.1),
      )

  pub start_shape : IsStart (given F pt t) (shape H)
  start_shape = record {
    both = λ a b h k. (nodes_ordered rows t.width widths ps all).antisymmetric a b h k;
    through = λ a b c h k. (nodes_ordered rows t.width widths ps all).transitive a b c h k;
    upper = λ a b h. let o = nodes_ordered rows t.width widths ps all in o.reflexive b (o.upper_lives a b h);
    there = there;
    rows = λ r v hr hv.
        let lr = in_rows r hr in
        let lv = in_rows v hv in
        let le = rows_le rows t.width widths ps all r v lr lv in (
          λ h. le.0 (subst (λ x. is_le H.order x (stands v lv).at ≡ true) (row_node r lr) (subst (λ x. is_le H.order (place_of_row H r) x ≡ true)
              (row_node v lv) h)),
          λ s. subst (λ x. is_le H.order x (place_of_row H v) ≡ true) (sym (row_node r lr)) (subst (λ x. is_le H.order (stands r lr).at x ≡ true)
              (sym (row_node v lv)) (le.1 s)),
        );
    columns = λ r c n hr e.
        let lr = in_rows r hr in
        let le = row_column_le rows t.width widths ps all r c lr (node n) (at c n e) in
        (λ h. le.0 (subst (λ x. is_le H.order x n ≡ true) (row_node r lr) h), λ h. subst (λ x. is_le H.order x n ≡ true) (sym (row_node r lr)) (le.1 h));
    under = λ c d n m e f. columns_le rows t.width widths ps all c d (node n) (node m) (at c n e) (at d m f);
    column_row = λ c n r hr e.
        let lr = in_rows r hr in
        let le = column_row_le rows t.width widths ps all c r (node n) lr (at c n e) in
        (λ h. le.0 (subst (λ x. is_le H.order n x ≡ true) (row_node r lr) h), λ h. subst (λ x. is_le H.order n x ≡ true) (sym (row_node r lr)) (le.1 h));
    extent = λ n m h.
        let r = some_row rows t.width widths ps all n m h in
        (r.0, lt-ltb r.0 (length F.rows.items) (omega (arith, r.1, T.sized.rows)), subst (λ x. is_le H.order x n ≡ true) (sym (row_node r.0 r.1)) r.2);
  }
