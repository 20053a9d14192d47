-- Each site in the set of a row has a class at or below the row's, and no array site is in that of a `this` or of an object site.
use Rattle.std.proofs.Common.{◌≡◌, ℕ, zero, suc, List, Option, Some, None, length, refl, sym, ap, ◌∙◌, subst, arith}
use Rattle.std.specs.Prelude.{◌<◌, ◌==◌, if◌then◌else◌, Bool, true, false, Contains, slice_get, option_and_then}
use Rattle.std.specs.List.{flat_map}
use Rattle.std.proofs.lemmas.Bool.{eqb-false}
use Rattle.java_core.specs.Programs.{Plain}
use Rattle.java_core.specs.Classes.{below, IsSubclass}
use Rattle.java_core.specs.Typing.{IsTyped}
use Rattle.java_core.specs.Formed.{IsFormed}
use Rattle.fact_model.specs.Items.{site_at as site_info_at, cell_at, point_row, site_class, row_class, row_this, is_object_row}
use Rattle.fact_model.specs.Classes.{IsBelow}
use Rattle.fact_model.specs.Flowing.{in_point, in_cell, Holds, IsInRow, by_point, by_cell}
use Rattle.fact_model.specs.declared.facts.Facts.{Facts}
use Rattle.fact_model.specs.declared.facts.CellInfo.{CellInfo}
use Rattle.flow_rules.specs.declared.items.ColumnItem.{ColumnItem}
use Rattle.flow_rules.specs.declared.items.ColumnItem.TheVariants as column
use Rattle.flow_rules.specs.declared.items.RowItem.TheVariants as row
use Rattle.flow_rules.specs.declared.items.Site.{Site}
use Rattle.flow_rules.specs.Parts.{a_creation}
use Rattle.flow_rules.specs.Numbered.{columns_of, sites_of, row_number, column_number}
use Rattle.flow_rules.specs.Facts.{FieldCell, numbers, field_if, field_at, fields_of, field_cell, array_cell, site_cells, site_info, cells_of, owner_of, IsFactsOf}
use Rattle.flow_rules.proofs.Listed.{at_map, below_at, contains_at, index_at, one_from, flat_from, when_from, each_from_zero}
use Rattle.flow_rules.proofs.NumberedItems.{numbered_columns}
use Rattle.flow_laws.proofs.order.Classes.{subclass_below}
use Rattle.flow_laws.proofs.order.Sites.{own_type, site_part}
use Rattle.flow_laws.proofs.order.Operands.{field_type}
use Rattle.flow_laws.proofs.order.Sound.{item_type}
use Rattle.flow_laws.proofs.order.Owners.{row_there, class_of_row, apart_free, deep_free}
use Rattle.flow_laws.proofs.order.Pointed.{point_there, point_typed}
use Rattle.flow_laws.proofs.order.Held.{held}

module _ (P : Plain) (formed : IsFormed P) (typed : IsTyped P) (F : Facts) (facts : IsFactsOf P F) where
  -- the cell of a field, and that of an array's elements
  pub data IsCellOf (z : CellInfo) : Type 0 where
    of_field : (x : Site) (f c r : ℕ) → slice_get (sites_of P) z.site.0 ≡ Some x → z.column ≡ Some (record { 0 = c })
        → column_number P (column.Fld f) ≡ Some c → row_number P (row.Field f) ≡ Some r → r ≡ z.row.0 → IsCellOf z
    of_array : (x : Site) → z.column ≡ None → slice_get (sites_of P) z.site.0 ≡ Some x → (x.ty.dim ≡ 0 → ⊥) → x.row ≡ z.row.0 → IsCellOf z

  -- the fields that have rows
  record IsFieldCell (k : FieldCell) : Type 0 where
    number : ℕ
    column_is : column_number P (column.Fld number) ≡ Some k.column
    row_is : row_number P (row.Field number) ≡ Some k.row

  field_cell_at : (c : ℕ) (i : ColumnItem) (k : FieldCell) → column_number P i ≡ Some c → Contains (field_at (numbers P) P c i) k → IsFieldCell k
  unfolding numbers
  field_cell_at c (column.Fld f) k n h = go (row_number P (row.Field f)) refl h
    where
      go : (o : Option ℕ) → row_number P (row.Field f) ≡ o → Contains (field_if (numbers P) P c (owner_of P (column.Fld f)) o) k → IsFieldCell k
      go None e h = absurd (omega (arith, h.1))
      go (Some r) e h = let z = one_from _ k h in record { number = f; column_is = n ∙ ap (λ y. Some y.column) z; row_is = e ∙ ap (λ y. Some y.row) z }
  field_cell_at c _ k n h = absurd (omega (arith, h.1))

  abbrev all_fields : List FieldCell
  all_fields = fields_of (numbers P) P (columns_of P)

  fields_are : (k : FieldCell) → Contains all_fields k → IsFieldCell k
  fields_are k c = let z = each_from_zero (λ c k. field_at (numbers P) P c k.item) (columns_of P) k c in field_cell_at z.0 z.1.item k
      ((numbered_columns P).back z.0 z.1 z.2) z.3

  site_cell : (i : ℕ) (x : Site) (z : CellInfo) (b : Bool) → slice_get (sites_of P) i ≡ Some x → (x.ty.dim == 0) ≡ b
      → Contains (if b then flat_map (field_cell P i x.ty.class.0) all_fields else array_cell i x.row) z → IsCellOf z
  site_cell i x z true e d c =
      let k = flat_from (field_cell P i x.ty.class.0) all_fields z c in
      let f = fields_are k.0 k.1 in
      let y = one_from _ z (when_from (below P x.ty.class.0 k.0.owner) _ z k.2).1 in
      of_field x f.number k.0.column k.0.row (subst (λ n. slice_get (sites_of P) n ≡ Some x) (ap (λ y. y.site.0) y) e) (sym (ap (λ y. y.column) y))
      f.column_is f.row_is (ap (λ y. y.row.0) y)
  site_cell i x z false e d c =
      let y = one_from _ z c in of_array x (sym (ap (λ y. y.column) y)) (subst (λ n. slice_get (sites_of P) n ≡ Some x) (ap (λ y. y.site.0) y) e)
      (λ h. eqb-false x.ty.dim 0 d h) (ap (λ y. y.row.0) y)

  pub cell_is : (c : ℕ) → c < length F.cells.items → IsCellOf (cell_at F c)
  unfolding cells_of
  cell_is c h =
      let z = below_at F.cells.items c h in
      let y = each_from_zero (site_cells P all_fields) (sites_of P) z.0 (contains_at _ c z.0 (subst (λ w. slice_get w c ≡ Some z.0) facts.cells z.1)) in
      subst (λ w. IsCellOf w) (sym (index_at F.cells.items c _ z.0 z.1)) (site_cell y.0 y.1 z.0 (y.1.ty.dim == 0) y.2 refl y.3)

  -- what a row asks of a site in its set
  pub record IsContained (v s : ℕ) : Type 0 where
    pub below : IsBelow F (site_class F s) (row_class F v)
    pub free : 0 < (site_info_at F s).dim → (row_this F v ≡ None) × (is_object_row F v ≡ false)

  class_below : (v s c : ℕ) → IsSubclass P (site_class F s) c → row_class F v ≡ c → IsBelow F (site_class F s) (row_class F v)
  class_below v s c u e = subst (λ z. IsBelow F (site_class F s) z) (sym e) (subclass_below P F facts u)

  point_contains : (p s : ℕ) (v : ℕ) → p < length F.points.items → Holds F (in_point p s) → point_row F p ≡ v → IsContained v s
  point_contains p s v h w e =
      let x = point_there P formed typed F facts p h in
      let t = point_typed P formed typed F facts p x.0 x.1 in
      let u = held P formed typed F facts (in_point p s) w t.type (ap (option_and_then (λ x. item_type P x.item)) x.1 ∙ t.stated) in
      subst (λ v. IsContained v s) (sym x.2 ∙ e) (record {
        below = class_below x.0.row s t.type.class.0 u.class t.class;
        free = λ n. deep_free P formed typed F facts x.0.row t.item t.at t.number (omega (arith, n, u.dim, t.dim));
      })

  cell_contains : (c s : ℕ) → IsCellOf (cell_at F c) → Holds F (in_cell c s) → IsContained (cell_at F c).row.0 s
  cell_contains c s (of_field x f d r g i n e q) w =
      let y = row_there P formed typed F facts (row.Field f) r e in
      let u = (held P formed typed F facts (in_cell c s) w).field f (record { 0 = d }) y.here.ty i n
      (field_type P formed typed f r y.here y.stands y.item) in
      subst (λ v. IsContained v s) q (record {
        below = class_below r s y.here.ty.class.0 u.class (class_of_row P formed typed F facts r (row.Field f) y);
        free = λ n. apart_free P formed typed F facts r (row.Field f) y refl;
      })
  cell_contains c s (of_array x i e n q) w =
      let p = site_part P formed typed (cell_at F c).site.0 x e in
      let y = row_there P formed typed F facts (row.New x.number) x.row p.row_number_is in
      let t = own_type P formed typed (a_creation p.of.place p.of.used p.of.operand p.of.slot p.of.declaration p.of.arguments) p.of.operand
      (row.New x.number) x.ty x.row y.here
      p.of.is_part refl
      p.row_is p.of.type y.stands y.item in
      let z = index_at F.sites.items (cell_at F c).site.0 _ (site_info x) (subst (λ w. slice_get w (cell_at F c).site.0 ≡ Some (site_info x))
      (sym facts.sites) (at_map site_info (sites_of P) (cell_at F c).site.0 x e)) in
      let u = held P formed typed F facts (in_cell c s) w in
      subst (λ v. IsContained v s) q (record {
        below = class_below x.row s (site_class F (cell_at F c).site.0) (u.class i) (class_of_row P formed typed F facts x.row
            (row.New x.number) y ∙ ap (λ w. w.class.0) t ∙ sym (ap (λ w. w.class.0) z));
        free = λ h. deep_free P formed typed F facts x.row (row.New x.number) y p.row_number_is
            (positive y.here.ty.dim (λ d. n (sym (ap (λ w. w.dim) t) ∙ d)));
      })
    where
      positive : (d : ℕ) → (d ≡ 0 → ⊥) → 0 < d
      positive zero h = absurd (h refl)
      positive (suc d) h = omega arith

  pub contained : (v s : ℕ) → IsInRow F v s → IsContained v s
  contained v s (by_point p t h w) = point_contains p t _ h w refl
  contained v s (by_cell c t h w) = cell_contains c t (cell_is c h) w

  pub members_below : (v s : ℕ) → IsInRow F v s → IsBelow F (site_class F s) (row_class F v)
  members_below v s h = (contained v s h).below

  pub arrays_free : (v s : ℕ) → IsInRow F v s → 0 < (site_info_at F s).dim → (row_this F v ≡ None) × (is_object_row F v ≡ false)
  arrays_free v s h n = (contained v s h).free n
