-- The facts of a formed and typed program are in range.
use Rattle.std.proofs.Common.{◌≡◌, ℕ, zero, suc, List, [], ◌∷◌, ◌++◌, Option, Some, None, length, refl, sym, ap, ◌∙◌, subst, arith, ⊎_elim}
use Rattle.std.specs.Prelude.{◌<◌, ◌==◌, not, All, IfSome, Contains, slice_get}
use Rattle.std.specs.Option.{option_map, option_map_or, is_some}
use Rattle.std.specs.List.{flat_map}
use Rattle.std.proofs.lemmas.Option.{same_Some, slice_get_within}
use Rattle.std.proofs.lemmas.List.Elements.{Contains-append_cases}
use Rattle.kaba_base.specs.declared.Place.{Place}
use Rattle.kaba_base.specs.declared.ClassId.{ClassId}
use Rattle.java_core.specs.declared.Ty.{Ty}
use Rattle.java_core.specs.Programs.{Plain, PlainField, PlainMethod, PlainLocal}
use Rattle.java_core.specs.Typing.{IsTyped}
use Rattle.java_core.specs.Formed.{IsFormed, IsKnownResult}
use Rattle.fact_model.specs.InRange.{AreCounted, InRange, IsRow, IsCol, IsSite, IsClass, IsPoint}
use Rattle.fact_model.specs.declared.facts.Facts.{Facts}
use Rattle.fact_model.specs.declared.facts.NewInfo.{NewInfo}
use Rattle.fact_model.specs.declared.facts.FlowInfo.{FlowInfo}
use Rattle.fact_model.specs.declared.facts.LoadInfo.{LoadInfo}
use Rattle.fact_model.specs.declared.facts.StoreInfo.{StoreInfo}
use Rattle.fact_model.specs.declared.facts.CastInfo.{CastInfo}
use Rattle.fact_model.specs.declared.facts.ClassInfo.{ClassInfo}
use Rattle.fact_model.specs.declared.facts.CellInfo.{CellInfo}
use Rattle.flow_rules.specs.declared.items.ObjectType.{ObjectType}
use Rattle.flow_rules.specs.declared.items.Operand.{Operand}
use Rattle.flow_rules.specs.declared.items.RowItem.{RowItem}
use Rattle.flow_rules.specs.declared.items.RowItem.TheVariants as row
use Rattle.flow_rules.specs.declared.items.PointItem.{PointItem}
use Rattle.flow_rules.specs.declared.items.PointItem.TheVariants as point
use Rattle.flow_rules.specs.declared.items.ColumnItem.{ColumnItem}
use Rattle.flow_rules.specs.declared.items.ColumnItem.TheVariants as column
use Rattle.flow_rules.specs.declared.items.Row.{Row}
use Rattle.flow_rules.specs.declared.items.Column.{Column}
use Rattle.flow_rules.specs.declared.items.Site.{Site}
use Rattle.flow_rules.specs.Ordered.{each, when}
use Rattle.flow_rules.specs.Operands.{object_of, object_if}
use Rattle.flow_rules.specs.Parts.{Part, a_load, an_element, a_creation, a_static_call, a_super_call, a_test, a_set, a_store, an_element_store, a_return, parts_of}
use Rattle.flow_rules.specs.Lists.{point_at, row_at, created, moved, news_of, flows_of, loads_of, stores_of, casts_of}
use Rattle.flow_rules.specs.Numbered.{rows_of, columns_of, sites_of, points_of, row_number, column_number, site_number, point_number, field_columns, method_columns, mark, array_mark, form_columns}
use Rattle.flow_rules.specs.Facts.{numbers, row_info, column_info, site_info, site_of_row, this_of_row, owner_of, IsFactsOf}
use Rattle.flow_rules.proofs.Listed.{at_contains, contains_at, below_at, at_map, map_at, map_from, index_at, one_from, flat_from, when_from, each_from_zero, all_of}
use Rattle.flow_rules.proofs.NumberedItems.{numbered_sites, numbered_columns}
use Rattle.flow_laws.proofs.order.Columns.{Stands, for_field, for_declaration, for_body, for_mark, members, column_stands, numbered_column}
use Rattle.flow_laws.proofs.order.Classes.{class_at, class_there, classes_in_order}
use Rattle.flow_laws.proofs.order.Rows.{own_of, Types, for_field as types_field, for_this as types_this, for_result as types_result, for_variable as types_variable, for_part as types_part, row_types, item_row}
use Rattle.flow_laws.proofs.order.Sites.{site_part}
use Rattle.flow_laws.proofs.order.Points.{item_point, point_of}
use Rattle.flow_laws.proofs.order.Tests.{gathered_from, row_item, both_from, these_from, test_of}
use Rattle.flow_laws.proofs.order.Fits.{known_type}
use Rattle.flow_laws.proofs.order.Fitted.{IsFitted, part_fitted}
use Rattle.flow_laws.proofs.order.Accesses.{access_part}
use Rattle.flow_laws.proofs.order.Supers.{super_entry}
use Rattle.flow_laws.proofs.order.Tied.{tie_fits}
use Rattle.flow_laws.proofs.order.Pointed.{point_item_of}
use Rattle.flow_laws.proofs.order.Called.{call_of, entry_of}
use Rattle.flow_laws.proofs.order.Held.{created_from, moved_from}
use Rattle.flow_laws.proofs.order.Contained.{IsCellOf, of_field, of_array, cell_is}
use Rattle.flow_laws.proofs.order.Makes.{make_site}

module _ (P : Plain) (formed : IsFormed P) (typed : IsTyped P) (F : Facts) (facts : IsFactsOf P F) where
  row_bound : (i : RowItem) (r : ℕ) → row_number P i ≡ Some r → r < length F.rows.items
  row_bound i r e = (item_row P F facts i r e).4

  column_bound : (i : ColumnItem) (c : ℕ) → column_number P i ≡ Some c → c < length F.columns.items
  column_bound i c e = (numbered_column P F facts i c e).0

  point_bound : (i : PointItem) (q : ℕ) → point_number P i ≡ Some q → q < length F.points.items
  point_bound i q e = (item_point P F facts i q e).4

  site_index : (s : ℕ) (x : Site) → slice_get (sites_of P) s ≡ Some x → s < length F.sites.items
  site_index s x e = slice_get_within F.sites.items s _
      (subst (λ y. slice_get y s ≡ Some (site_info x)) (sym facts.sites) (at_map site_info (sites_of P) s x e))

  site_bound : (n s : ℕ) → site_number P n ≡ Some s → s < length F.sites.items
  site_bound n s e = let z = (numbered_sites P).at n s e in site_index s z.0 z.1

  class_bound : (c : ℕ) → c < length P.classes → c < length F.classes.items
  class_bound c h = let z = below_at P.classes c h in let w = class_there P F facts c z.0 z.1 in slice_get_within F.classes.items c w.0 w.1

  operand_bound : (o : Operand) (q : ℕ) → point_at (numbers P) o ≡ Some q → q < length F.points.items
  operand_bound o q e = let j = point_item_of P formed typed F facts o.point q e in point_bound j.0 q j.2

  row_at_bound : (o : Operand) (r : ℕ) → row_at (numbers P) o ≡ Some r → r < length F.rows.items
  row_at_bound o r e = let j = row_item P o.row r e in row_bound j.0 r j.2

  -- a point that may be there is in range
  some_point : (q : Option ℕ) → ((p : ℕ) → q ≡ Some p → p < length F.points.items) → IfSome q (IsPoint F)
  some_point None h = tt
  some_point (Some p) h = h p refl

  -- the class of an owner
  owner_bound : (c : ℕ) (k : _) → slice_get P.classes c ≡ Some k → c < length F.classes.items
  owner_bound c k e = class_bound c (slice_get_within P.classes c k e)

  field_owner : (f : ℕ) (k : PlainField) → slice_get P.fields f ≡ Some k → k.owner < length F.classes.items
  field_owner f k e = let y = formed.fields f k e in owner_bound k.owner y.holder y.stands

  method_owner : (m : ℕ) (k : PlainMethod) → slice_get P.methods m ≡ Some k → k.owner < length F.classes.items
  method_owner m k e = let y = formed.methods m k e in owner_bound k.owner y.holder y.stands

  known_bound : (t : ObjectType) → t.class.0 < length P.classes → t.class.0 < length F.classes.items
  known_bound t h = class_bound t.class.0 h

  fitted_at : (m : ℕ) (k : PlainMethod) (e : slice_get P.methods m ≡ Some k) (p : Part) → Contains (parts_of P m k) p
      → IsFitted P formed typed F facts m k e p
  fitted_at m k e p c = part_fitted P formed typed F facts m k e p c

  -- what a creation, a cast or an `instanceof` gives has a class of the program
  own_known : (m : ℕ) (k : PlainMethod) (e : slice_get P.methods m ≡ Some k) (p : Part) (o : Operand) (t : ObjectType)
      → IsFitted P formed typed F facts m k e p → own_of p ≡ Some o → o.ty ≡ Some t → t.class.0 < length F.classes.items
  own_known m k e (a_creation w u q s d es) o t f h y = known_bound t (f.1 t (ap (λ z. z.ty) (same_Some q o h) ∙ y))
  own_known m k e (a_test w d q) o t f h y = known_bound t (f.4 t (ap (λ z. z.ty) (same_Some q o h) ∙ y))
  own_known m k e _ o t f h y = absurd (cc)

  result_known : (r : Option Ty) (t : ObjectType) → IsKnownResult P r → object_if r ≡ Some t → t.class.0 < length F.classes.items
  result_known None t k e = absurd (cc)
  result_known (Some v) t k e = known_bound t (known_type P v t k e)

  -- the class of a row
  variable_known : (m : ℕ) (k : PlainMethod) (i : ℕ) (v : PlainLocal) (t : ObjectType) → slice_get P.methods m ≡ Some k
      → slice_get (k.params ++ k.locals) i ≡ Some v → object_of v.ty ≡ Some t → t.class.0 < length F.classes.items
  variable_known m k i v t e d h = known_bound t (known_type P v.ty t ((formed.methods m k e).variables v (contains_at (k.params ++ k.locals) i v d)).type h)

  row_known : (x : Row) → Types P x → x.ty.class.0 < length F.classes.items
  row_known x (types_field f k e i t) =
      known_bound x.ty (known_type P k.ty x.ty (formed.fields f k e).type t)
  row_known x (types_this m k e b s i t) = subst (λ y. y.class.0 < length F.classes.items) (same_Some _ x.ty t) (method_owner m k e)
  row_known x (types_result m k e i t) = result_known k.result x.ty (formed.methods m k e).result t
  row_known x (types_variable m k j v e d i t) = variable_known m k j v x.ty e d t
  row_known x (types_part m k p e c o) = own_known m k e p o.operand x.ty (fitted_at m k e p c) o.own o.type

  row_site_bound : (i : RowItem) → IfSome (site_of_row (numbers P) i) (IsSite F)
  unfolding numbers
  row_site_bound (row.New n) = go (site_number P n) refl
    where
      go : (o : Option ℕ) → site_number P n ≡ o → IfSome (option_map (λ s. record { 0 = s }) o) (IsSite F)
      go None e = tt
      go (Some s) e = site_bound n s e
  row_site_bound _ = tt

  row_this_bound : (i : RowItem) → IfSome (this_of_row (numbers P) i) (IsCol F)
  unfolding numbers
  row_this_bound (row.This m) = go (column_number P (column.Def m)) refl
    where
      go : (o : Option ℕ) → column_number P (column.Def m) ≡ o → IfSome (option_map (λ c. record { 0 = c }) o) (IsCol F)
      go None e = tt
      go (Some c) e = column_bound (column.Def m) c e
  row_this_bound _ = tt

  rows : All (λ r. IsClass F r.class × IfSome r.site (IsSite F) × IfSome r.this_of (IsCol F)) F.rows.items
  rows = all_of (λ r. IsClass F r.class × IfSome r.site (IsSite F) × IfSome r.this_of (IsCol F)) F.rows.items
      (λ x c. let z = at_contains F.rows.items x c in
      let w = map_at (row_info (numbers P) P) (rows_of P) z.0 x (subst (λ y. slice_get y z.0 ≡ Some x) facts.rows z.1) in
      subst (λ r. IsClass F r.class × IfSome r.site (IsSite F) × IfSome r.this_of (IsCol F)) w.2
      (row_known w.0 (row_types P z.0 w.0 w.1), row_site_bound w.0.item, row_this_bound w.0.item))

  -- the class of a mark
  Marks : Column → Type 0
  Marks x = (c : ClassId) → x.item ≡ column.Is c → c.0 < length F.classes.items

  mark_of : ColumnItem → Option ClassId
  mark_of (column.Is c) = Some c
  mark_of _ = None

  as_mark : (p : Place) (t : Option ObjectType) (x : Column) → ((u : ObjectType) → t ≡ Some u → u.class.0 < length F.classes.items)
      → Contains (mark p t) x → Marks x
  unfolding Marks mark_of
  as_mark p None x h c d e = absurd (omega (arith, c.1))
  as_mark p (Some t) x h c d e = subst (λ z. z.0 < length F.classes.items) (same_Some t.class d (ap (λ z. mark_of z.item) (one_from _ x c)
      ∙ ap mark_of e)) (h t refl)

  as_array_mark : (p : Place) (t : Option ObjectType) (x : Column) → ((u : ObjectType) → t ≡ Some u → u.class.0 < length F.classes.items)
      → Contains (array_mark p t) x → Marks x
  as_array_mark p None x h c = absurd (omega (arith, c.1))
  as_array_mark p (Some t) x h c = as_mark p (Some t) x h (when_from (not (t.dim == 0)) (mark p (Some t)) x c).1

  part_marks : (m : ℕ) (k : PlainMethod) (e : slice_get P.methods m ≡ Some k) (p : Part) (x : Column)
      → IsFitted P formed typed F facts m k e p → Contains (form_columns p) x → Marks x
  part_marks m k e (a_creation w u o s d es) x f c = as_array_mark w o.ty x (λ t h. known_bound t (f.1 t h)) c
  part_marks m k e (a_test w d o) x f c = as_mark w o.ty x (λ t h. known_bound t (f.4 t h)) c
  part_marks m k e _ x f c = absurd (omega (arith, c.1))

  member_marks : (m : ℕ) (k : PlainMethod) (x : Column) → Contains (members P m k) x → Marks x
  unfolding Marks mark_of members
  member_marks m k x c d e =
      let z = (when_from (not k.is_static) (record { item = column.Dcl m; place = k.tag.place } ∷ when (is_some k.body)
      (record { item = column.Def m; place = k.tag.place } ∷ [])) x c).1 in
      ⊎_elim (λ y. absurd (let g = ap (λ z. mark_of z.item) (one_from _ x y) ∙ ap mark_of e in cc))
      (λ y. absurd (let g = ap (λ z. mark_of z.item) (one_from (record { item = column.Def m; place = k.tag.place }) x
      (when_from (is_some k.body) (record { item = column.Def m; place = k.tag.place } ∷ []) x y).1) ∙ ap mark_of e in cc))
      (Contains-append_cases (record { item = column.Dcl m; place = k.tag.place } ∷ [])
      (when (is_some k.body) (record { item = column.Def m; place = k.tag.place } ∷ [])) x z)

  method_marks : (m : ℕ) (k : PlainMethod) (x : Column) → slice_get P.methods m ≡ Some k → Contains (method_columns P m k) x → Marks x
  unfolding members
  method_marks m k x e c =
      ⊎_elim (λ d. member_marks m k x d) (λ d. let z = flat_from form_columns (parts_of P m k) x d in part_marks m k e z.0 x (fitted_at m k e z.0 z.1) z.2)
      (Contains-append_cases (members P m k) (flat_map form_columns (parts_of P m k)) x c)

  field_marks : (f : ℕ) (k : PlainField) (x : Column) → Contains (field_columns f k) x → Marks x
  unfolding Marks mark_of
  field_marks f k x c d e = absurd
      (let g = ap (λ z. mark_of z.item) (one_from (record { item = column.Fld f; place = k.tag.place }) x
      (when_from (not k.is_static) (record { item = column.Fld f; place = k.tag.place } ∷ []) x c).1) ∙ ap mark_of e in cc)

  column_marks : (n : ℕ) (x : Column) → slice_get (columns_of P) n ≡ Some x → Marks x
  column_marks n x e =
      ⊎_elim (λ d. let z = each_from_zero field_columns P.fields x d in field_marks z.0 z.1 x z.3)
      (λ d. let z = each_from_zero (method_columns P) P.methods x d in method_marks z.0 z.1 x z.2 z.3)
      (Contains-append_cases (each field_columns 0 P.fields) (each (method_columns P) 0 P.methods) x ((numbered_columns P).from n x e))

  item_owner : (i : ColumnItem) → Stands P i → ((c : ClassId) → i ≡ column.Is c → c.0 < length F.classes.items) → owner_of P i < length F.classes.items
  item_owner _ (for_field f k e s) h = subst (λ c. c < length F.classes.items) (sym (ap (λ o. option_map_or (λ k. k.owner) o 0) e)) (field_owner f k e)
  item_owner _ (for_declaration m k e s) h = subst (λ c. c < length F.classes.items) (sym (ap (λ o. option_map_or (λ k. k.owner) o 0) e)) (method_owner m k e)
  item_owner _ (for_body m k e s b) h = subst (λ c. c < length F.classes.items) (sym (ap (λ o. option_map_or (λ k. k.owner) o 0) e)) (method_owner m k e)
  item_owner _ (for_mark c) h = h c refl

  columns : All (λ c. IsClass F c.class) F.columns.items
  unfolding Marks
  columns = all_of (λ c. IsClass F c.class) F.columns.items
      (λ x c. let z = at_contains F.columns.items x c in
      let w = map_at (λ c. column_info P c.item) (columns_of P) z.0 x (subst (λ y. slice_get y z.0 ≡ Some x) facts.columns z.1) in
      subst (λ y. IsClass F y.class) w.2 (item_owner w.0.item (column_stands P z.0 w.0 w.1) (column_marks z.0 w.0 w.1)))

  sites : All (λ s. IsRow F s.row × IsClass F s.class) F.sites.items
  sites = all_of (λ s. IsRow F s.row × IsClass F s.class) F.sites.items
      (λ x c. let z = at_contains F.sites.items x c in
      let w = map_at site_info (sites_of P) z.0 x (subst (λ y. slice_get y z.0 ≡ Some x) facts.sites z.1) in
      let p = site_part P formed typed z.0 w.0 w.1 in
      let a = p.of.is_part in
      subst (λ s. IsRow F s.row × IsClass F s.class) w.2 (
        row_bound (row.New w.0.number) w.0.row p.row_number_is,
        own_known a.number a.method a.stands
            (a_creation p.of.place p.of.used p.of.operand p.of.slot p.of.declaration p.of.arguments) p.of.operand w.0.ty
            (fitted_at a.number a.method a.stands (a_creation p.of.place p.of.used p.of.operand p.of.slot p.of.declaration p.of.arguments) a.part)
            refl p.of.type,
      ))

  class_known : (c : ℕ) (x : ClassInfo) → slice_get F.classes.items c ≡ Some x → IfSome x.parent (IsClass F) × All (IsClass F) x.faces.items
  class_known zero x e =
      let k = class_at P F facts 0 x e in
      let o = same_Some _ _ (sym k.stands ∙ formed.object.first) in (
        subst (λ p. IfSome p (IsClass F)) (sym (k.parent ∙ ap (λ y. y.parent) o ∙ formed.object.parent)) tt,
        all_of (IsClass F) x.faces.items
            (λ f h. absurd (omega (arith, (subst (λ y. Contains y f) (k.faces ∙ ap (λ y. y.faces) o ∙ formed.object.faces) h).1))),
      )
  class_known (suc c) x e =
      let k = class_at P F facts (suc c) x e in
      let f = formed.classes c k.plain k.stands in (
        subst (λ p. IfSome p (IsClass F)) (sym (k.parent ∙ f.has_parent)) (owner_bound f.parent.0 f.above f.parent_stands),
        all_of
            (IsClass F) x.faces.items (λ y h. let i = f.faces y (subst (λ z. Contains z y) k.faces h) in owner_bound y.0 i.0 i.1),
      )

  classes : All (λ k. IfSome k.parent (IsClass F) × All (IsClass F) k.faces.items) F.classes.items
  classes = all_of (λ k. IfSome k.parent (IsClass F) × All (IsClass F) k.faces.items) F.classes.items
      (λ x c. let z = at_contains F.classes.items x c in class_known z.0 x z.1)

  points : All (IsRow F) F.points.items
  points = all_of (IsRow F) F.points.items
      (λ x c. let z = at_contains F.points.items x c in
      let w = map_at (λ p. record { 0 = p.row }) (points_of P) z.0 x (subst (λ y. slice_get y z.0 ≡ Some x) facts.points z.1) in
      let p = point_of P z.0 w.0 w.1 in
      subst (IsRow F) w.2 (row_bound p.at.row w.0.row p.number))

  cell_bound : (z : CellInfo) → IsCellOf P formed typed F facts z → IsSite F z.site × IfSome z.column (IsCol F) × IsRow F z.row
  cell_bound z (of_field x f c r s n e d q) = (
    site_index z.site.0 x s,
    subst (λ o. IfSome o (IsCol F)) (sym n) (column_bound (column.Fld f) c e),
    subst (λ r. r < length F.rows.items) q
        (row_bound (row.Field f) r d),
  )
  cell_bound z (of_array x n s h q) = (
    site_index z.site.0 x s,
    subst (λ o. IfSome o (IsCol F)) (sym n) tt,
    subst (λ r. r < length F.rows.items) q
        (row_bound (row.New x.number) x.row (site_part P formed typed z.site.0 x s).row_number_is),
  )

  cells : All (λ c. IsSite F c.site × IfSome c.column (IsCol F) × IsRow F c.row) F.cells.items
  cells = all_of (λ c. IsSite F c.site × IfSome c.column (IsCol F) × IsRow F c.row) F.cells.items
      (λ x c. let z = at_contains F.cells.items x c in
      cell_bound x (subst (IsCellOf P formed typed F facts) (index_at F.cells.items z.0 _ x z.1) (cell_is P formed typed F facts z.0
      (slice_get_within F.cells.items z.0 x z.1))))

  new_bound : (o : Operand) (q : Option ℕ) (x : NewInfo) → ((p : ℕ) → q ≡ Some p → p < length F.points.items) → Contains (created (numbers P) o q) x
      → IsPoint F x.point × IsSite F x.site
  new_bound o q x h c = let z = created_from P formed typed F facts o q x c in (h x.point z.1, site_bound z.0 x.site.0 z.3)

  part_news : (m : ℕ) (p : Part) (x : NewInfo) → Contains (news_of (numbers P) m p) x → IsPoint F x.point × IsSite F x.site
  unfolding numbers
  part_news m (a_creation w u o s d es) x c = new_bound o (point_at (numbers P) o) x (operand_bound o) c
  part_news m (a_set v o) x c = new_bound o (point_at (numbers P) v) x (operand_bound v) c
  part_news m (a_return o) x c = new_bound o (point_number P (point.Result m)) x (point_bound (point.Result m)) c
  part_news m (a_static_call w d es o) x c = let z = each_from_zero (λ i o. created (numbers P) o (point_number P (point.Local d i))) es x c in
      new_bound z.1 (point_number P (point.Local d z.0)) x (point_bound (point.Local d z.0)) z.3
  part_news m (a_super_call w (Some d) es o) x c =
      let z = each_from_zero (λ i o. created (numbers P) o (point_number P (point.Local d i))) es x c in new_bound z.1
      (point_number P (point.Local d z.0)) x (point_bound (point.Local d z.0)) z.3
  part_news m _ x c = absurd (omega (arith, c.1))

  flow_bound : (p q : Option ℕ) (x : FlowInfo) → ((a : ℕ) → p ≡ Some a → a < length F.points.items)
      → ((a : ℕ) → q ≡ Some a → a < length F.points.items) → Contains (moved p q) x → IsPoint F x.from × IsPoint F x.to
  flow_bound p q x f g c = let z = moved_from P formed typed F facts p q x c in (f x.from z.0, g x.to z.1)

  args_flows : (d : ℕ) (es : List Operand) (x : FlowInfo)
      → Contains (each (λ i o. moved (point_at (numbers P) o) (point_number P (point.Local d i))) 0 es) x → IsPoint F x.from × IsPoint F x.to
  args_flows d es x c = let z = each_from_zero (λ i o. moved (point_at (numbers P) o) (point_number P (point.Local d i))) es x c in flow_bound _ _
      x (operand_bound z.1) (point_bound (point.Local d z.0)) z.3

  part_flows : (m : ℕ) (p : Part) (x : FlowInfo) → Contains (flows_of (numbers P) m p) x → IsPoint F x.from × IsPoint F x.to
  unfolding numbers
  part_flows m (a_set v o) x c = flow_bound _ _ x (operand_bound o) (operand_bound v) c
  part_flows m (a_return o) x c = flow_bound _ _ x (operand_bound o) (point_bound (point.Result m)) c
  part_flows m (a_static_call w d es o) x c =
      ⊎_elim (args_flows d es x) (flow_bound _ _ x (point_bound (point.Result d)) (operand_bound o))
      (Contains-append_cases (each (λ i o. moved (point_at (numbers P) o) (point_number P (point.Local d i))) 0 es)
      (moved (point_number P (point.Result d)) (point_at (numbers P) o)) x c)
  part_flows m (a_super_call w (Some d) es o) x c =
      let one = each (λ i o. moved (point_at (numbers P) o) (point_number P (point.Local d i))) 0 es in
      let two = moved (point_number P (point.Result d)) (point_at (numbers P) o) in
      ⊎_elim (λ y. ⊎_elim (args_flows d es x) (flow_bound _ _ x (point_bound (point.Result d)) (operand_bound o)) (Contains-append_cases one two x y))
      (flow_bound _ _ x (point_bound (point.This m)) (point_bound (point.This d)))
      (Contains-append_cases (one ++ two) (moved (point_number P (point.This m)) (point_number P (point.This d))) x c)
  part_flows m _ x c = absurd (omega (arith, c.1))

  part_loads : (p : Part) (x : LoadInfo) → Contains (loads_of (numbers P) p) x → IsPoint F x.base × IfSome x.column (IsCol F) × IsPoint F x.into
  unfolding numbers
  part_loads (a_load w b (Some f) o) x c =
      let z = these_from (point_at (numbers P) b) (column_number P (column.Fld f)) (point_at (numbers P) o)
      (λ a c q. record { base = a; column = Some (record { 0 = c }); into = q }) x c in
      subst (λ y. IsPoint F y.base × IfSome y.column (IsCol F) × IsPoint F y.into) z.6 (
        operand_bound b z.0 z.3,
        column_bound (column.Fld f) z.1 z.4,
        operand_bound o z.2 z.5,
      )
  part_loads (an_element w b o) x c =
      let z = both_from (point_at (numbers P) b) (point_at (numbers P) o) (λ a q. record { base = a; column = None; into = q }) x c in
      subst (λ y. IsPoint F y.base × IfSome y.column (IsCol F) × IsPoint F y.into) z.4 (operand_bound b z.0 z.2, tt, operand_bound o z.1 z.3)
  part_loads _ x c = absurd (omega (arith, c.1))

  part_stores : (p : Part) (x : StoreInfo) → Contains (stores_of (numbers P) p) x → IsPoint F x.base × IfSome x.column (IsCol F) × IsPoint F x.value
  unfolding numbers
  part_stores (a_store w b (Some f) o) x c =
      let z = these_from (point_at (numbers P) b) (column_number P (column.Fld f)) (point_at (numbers P) o)
      (λ a c q. record { base = a; column = Some (record { 0 = c }); value = q; place = w }) x c in
      subst (λ y. IsPoint F y.base × IfSome y.column (IsCol F) × IsPoint F y.value) z.6 (
        operand_bound b z.0 z.3,
        column_bound (column.Fld f) z.1 z.4,
        operand_bound o z.2 z.5,
      )
  part_stores (an_element_store w b o) x c =
      let z = both_from (point_at (numbers P) b) (point_at (numbers P) o) (λ a q. record { base = a; column = None; value = q; place = w }) x c in
      subst (λ y. IsPoint F y.base × IfSome y.column (IsCol F) × IsPoint F y.value) z.4 (operand_bound b z.0 z.2, tt, operand_bound o z.1 z.3)
  part_stores _ x c = absurd (omega (arith, c.1))

  bodies : All (λ x. IsCol F x.column × IsPoint F x.this × All (λ p. IfSome p (IsPoint F)) x.params.items × IfSome x.result (IsPoint F)) F.bodies.items
  unfolding numbers
  bodies = all_of (λ x. IsCol F x.column × IsPoint F x.this × All (λ p. IfSome p (IsPoint F)) x.params.items × IfSome x.result (IsPoint F)) F.bodies.items
      (λ x c. let e = entry_of P formed typed F facts x c in (
        column_bound (column.Def e.number) x.column.0 e.column_is,
        point_bound (point.This e.number) x.this e.this,
        all_of (λ p. IfSome p (IsPoint F)) x.params.items
            (λ p d. let z = each_from_zero (λ i v. point_number P (point.Local e.number i) ∷ []) e.method.params p (subst (λ y. Contains y p) e.params d) in
            subst (λ q. IfSome q (IsPoint F)) (one_from _ p z.3) (some_point (point_number P (point.Local e.number z.0))
            (point_bound (point.Local e.number z.0)))),
        subst (λ q. IfSome q (IsPoint F)) (sym e.result) (some_point (point_number P (point.Result e.number)) (point_bound (point.Result e.number))),
      ))

  calls : All (λ x. IsPoint F x.receiver × All (λ p. IfSome p (IsPoint F)) x.args.items × IfSome x.result (IsPoint F)) F.calls.items
  calls = all_of (λ x. IsPoint F x.receiver × All (λ p. IfSome p (IsPoint F)) x.args.items × IfSome x.result (IsPoint F)) F.calls.items
      (λ x c. let e = call_of P formed typed F facts x c in (
        operand_bound e.base x.receiver e.receiver,
        all_of (λ p. IfSome p (IsPoint F)) x.args.items
            (λ p d. let z = map_from (point_at (numbers P)) e.args p (subst (λ y. Contains y p) e.args_are d) in subst (λ q. IfSome q (IsPoint F))
            z.2 (some_point (point_at (numbers P) z.0) (operand_bound z.0))),
        subst (λ q. IfSome q (IsPoint F)) (sym e.result) (some_point (point_at (numbers P) e.own) (operand_bound e.own)),
      ))

  part_casts : (m : ℕ) (k : PlainMethod) (s : slice_get P.methods m ≡ Some k) (p : Part) (x : CastInfo)
      → IsFitted P formed typed F facts m k s p → Contains (casts_of (numbers P) p) x → IsPoint F x.from × IsPoint F x.into
      × IsClass F x.class
  part_casts m k s (a_test w e o) x f c =
      let z = these_from (point_at (numbers P) e) (point_at (numbers P) o) o.ty (λ a q t. record { from = a; into = q; class = t.class }) x c in
      subst (λ y. IsPoint F y.from × IsPoint F y.into × IsClass F y.class) z.6 (operand_bound e z.0 z.3, operand_bound o z.1 z.4, known_bound z.2 (f.4 z.2 z.5))
  part_casts m k s _ x f c = absurd (omega (arith, c.1))

  tests : All (λ x. IsPoint F x.from × IsRow F x.target × IsClass F x.class) F.tests.items
  tests = all_of (λ x. IsPoint F x.from × IsRow F x.target × IsClass F x.class) F.tests.items
      (λ x c. let t = test_of P formed typed F facts x c in (
        operand_bound t.operand x.from t.from,
        row_bound t.item x.target.0 t.target,
        subst (λ y. y.0 < length F.classes.items) t.class
            (known_bound t.type ((fitted_at t.number t.method t.stands (a_test t.place t.operand t.own) t.part).4 t.type t.typed_as)),
      ))

  -- all but the counts
  pub in_range : AreCounted F → InRange F
  in_range counts = record {
    counts = counts;
    acyclic = (classes_in_order P F facts formed).acyclic;
    rows = rows;
    columns = columns;
    sites = sites;
    classes = classes;
    points = points;
    cells = cells;
    news = all_of (λ x. IsPoint F x.point × IsSite F x.site) F.news.items
        (λ x c. let z = gathered_from P (λ b. news_of (numbers P) b.number) x ((facts.news x).0 c) in part_news z.0 z.2 x z.5);
    flows = all_of (λ x. IsPoint F x.from × IsPoint F x.to) F.flows.items
        (λ x c. let z = gathered_from P (λ b. flows_of (numbers P) b.number) x ((facts.flows x).0 c) in part_flows z.0 z.2 x z.5);
    loads = all_of (λ x. IsPoint F x.base × IfSome x.column (IsCol F) × IsPoint F x.into) F.loads.items
        (λ x c. let z = gathered_from P (λ b. loads_of (numbers P)) x ((facts.loads x).0 c) in part_loads z.2 x z.5);
    stores = all_of (λ x. IsPoint F x.base × IfSome x.column (IsCol F) × IsPoint F x.value) F.stores.items
        (λ x c. let z = gathered_from P (λ b. stores_of (numbers P)) x ((facts.stores x).0 c) in part_stores z.2 x z.5);
    bodies = bodies;
    calls = calls;
    casts = all_of (λ x. IsPoint F x.from × IsPoint F x.into × IsClass F x.class) F.casts.items
        (λ x c. let z = gathered_from P (λ b. casts_of (numbers P)) x ((facts.casts x).0 c) in part_casts z.0 z.1 z.3 z.2 x
        (fitted_at z.0 z.1 z.3 z.2 z.4) z.5);
    accesses = all_of (λ x. IsRow F x.row × IsCol F x.column) F.accesses.items (λ x c. let z = access_part P F facts x c in
        (row_at_bound z.has.base x.row.0 z.has.row_is, column_bound z.has.member x.column.0 z.has.column_is));
    supers = all_of (λ x. IsRow F x.row × IsCol F x.column) F.supers.items (λ x c. let z = super_entry P formed typed F facts x c in
        (row_bound (row.This z.number) x.row.0 z.row_is, column_bound (column.Def z.runs) x.column.0 z.column_is));
    ties = all_of (λ x. IsRow F x.lower × IsRow F x.upper) F.ties.items (λ x c. let t = tie_fits P formed typed F facts x c in (t.lower, t.upper));
    tests = tests;
    makes = all_of (λ x. IsSite F x.site) F.makes.items (λ x c. let z = make_site P F facts x c in site_index x.site.0 z.0 z.1);
  }
