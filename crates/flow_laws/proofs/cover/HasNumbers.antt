-- Rows, columns, sites and points that the text gives have their numbers.
use Rattle.std.proofs.Common.{◌≡◌, ℕ, List, ◌++◌, Option, Some, None, length, refl, sym, subst, arith, ⊎_elim}
use Rattle.std.specs.Prelude.{◌&&◌, ◌||◌, nat_lt, not, true, false, slice_get, Contains}
use Rattle.std.specs.Option.{is_some}
use Rattle.std.specs.List.{flat_map}
use Rattle.std.proofs.lemmas.List.Elements.{Contains-append_left, Contains-append_right}
use Rattle.kaba_base.specs.declared.Place.{Place}
use Rattle.java_core.specs.Programs.{Plain, PlainField, PlainMethod, PlainLocal}
use Rattle.flow_rules.specs.declared.items.ObjectType.{ObjectType}
use Rattle.flow_rules.specs.declared.items.Operand.{Operand}
use Rattle.flow_rules.specs.declared.items.RowItem.{RowItem}
use Rattle.flow_rules.specs.declared.items.RowItem.TheVariants as row
use Rattle.flow_rules.specs.declared.items.ColumnItem.TheVariants as column
use Rattle.flow_rules.specs.declared.items.PointItem.{PointItem}
use Rattle.flow_rules.specs.declared.items.PointItem.TheVariants as point
use Rattle.flow_rules.specs.declared.items.Row.{Row}
use Rattle.flow_rules.specs.declared.items.Column.{Column}
use Rattle.flow_rules.specs.declared.items.Site.{Site}
use Rattle.flow_rules.specs.declared.items.Point.{Point}
use Rattle.flow_rules.specs.declared.items.PointAt.{PointAt}
use Rattle.flow_rules.specs.Ordered.{by_place, each}
use Rattle.flow_rules.specs.Operands.{object_of, object_if, variable_row, result_in}
use Rattle.flow_rules.specs.Parts.{Part, parts_of}
use Rattle.flow_rules.specs.Numbered.{row_if, form_rows, is_first, field_rows, this_rows, result_rows, variable_rows, method_rows, field_columns, method_columns, row_number, column_number, number_if, form_sites, site_number, bodies_of, listed, point_with, point_of_form, own_point, form_points, static_points, variable_points, method_points, Outline, outline_if, point_number}
use Rattle.flow_rules.proofs.Listed.{one, flat_has, each_has, two_have, place_has, when_has}
use Rattle.flow_rules.proofs.NumberedItems.{numbered_rows, numbered_sites, numbered_points, numbered_columns, this_points, param_points, local_points, result_points, part_points}
use Rattle.flow_laws.proofs.cover.Flows.{body_of, body_there}

module _ (P : Plain) where
  -- rows
  row_typed : (i : RowItem) (p : Place) (o : Option ObjectType) (t : ObjectType) → o ≡ Some t → Contains (row_if i p o) (record { item = i; place = p; ty = t })
  row_typed i p o t e = subst (λ z. Contains (row_if i p z) (record { item = i; place = p; ty = t })) (sym e) (one (record { item = i; place = p; ty = t }))

  pub field_row : (f : ℕ) (k : PlainField) (t : ObjectType) → slice_get P.fields f ≡ Some k → object_of k.ty ≡ Some t
      → (r : ℕ) × (row_number P (row.Field f) ≡ Some r)
  field_row f k t e o =
      let x : Row = record { item = row.Field f; place = k.tag.place; ty = t } in
      (numbered_rows P).there x (Contains-append_left (each field_rows 0 P.fields) (each (method_rows P) 0 P.methods) x
      (each_has field_rows 0 P.fields f k x e f
      (omega arith) (row_typed (row.Field f) k.tag.place (object_of k.ty) t o)))

  module _ (m : ℕ) (k : PlainMethod) (stands : slice_get P.methods m ≡ Some k) where
    in_method : (x : Row) → Contains (method_rows P m k) x → (r : ℕ) × (row_number P x.item ≡ Some r)
    in_method x c = (numbered_rows P).there x (Contains-append_right (each field_rows 0 P.fields) (each (method_rows P) 0 P.methods) x
        (each_has (method_rows P) 0 P.methods m k x stands m (omega arith) c))

    abbrev heads : List Row
    heads = this_rows m k ++ result_rows P m k

    abbrev parameters : List Row
    parameters = each (variable_rows P m k) 0 k.params

    abbrev locals : List Row
    locals = each (variable_rows P m k) (length k.params) k.locals

    in_heads : (x : Row) → Contains heads x → (r : ℕ) × (row_number P x.item ≡ Some r)
    in_heads x c = in_method x (Contains-append_left (heads ++ parameters ++ locals) (flat_map form_rows (parts_of P m k)) x
        (Contains-append_left (heads ++ parameters) locals x (Contains-append_left heads parameters x c)))

    pub this_row : is_some k.body ≡ true → k.is_static ≡ false → (r : ℕ) × (row_number P (row.This m) ≡ Some r)
    this_row b s =
        let x : Row = record { item = row.This m; place = k.tag.place; ty = record { class = record { 0 = k.owner }; dim = 0 } } in
        in_heads x (Contains-append_left (this_rows m k) (result_rows P m k) x (when_has (is_some k.body && not k.is_static) _ x (rw (b, s) refl) (one x)))

    pub result_row : is_first P m k ≡ true → (t : ObjectType) → object_if k.result ≡ Some t → (r : ℕ) × (row_number P (result_in k.slot m) ≡ Some r)
    result_row f t o =
        let x : Row = record { item = result_in k.slot m; place = k.tag.place; ty = t } in
        in_heads x (Contains-append_right (this_rows m k) (result_rows P m k) x
        (when_has (is_first P m k) _ x f (row_typed (result_in k.slot m) k.tag.place (object_if k.result) t o)))

    pub own_variable_row : (i : ℕ) (v : PlainLocal) (t : ObjectType) → slice_get (k.params ++ k.locals) i ≡ Some v → object_of v.ty ≡ Some t
        → (is_first P m k || not (nat_lt i (length k.params))) ≡ true → (r : ℕ) × (row_number P (variable_row m k i) ≡ Some r)
    own_variable_row i v t e o f =
        let x : Row = record { item = variable_row m k i; place = v.tag.place; ty = t } in
        in_method x (Contains-append_left (heads ++ parameters ++ locals) (flat_map form_rows (parts_of P m k)) x (⊎_elim
        (λ d. Contains-append_left (heads ++ parameters) locals x (Contains-append_right heads parameters x d))
        (λ d. Contains-append_right (heads ++ parameters) locals x d)
        (two_have (variable_rows P m k) 0 (length k.params) k.params k.locals i v x e (omega arith) i (omega arith)
        (when_has (is_first P m k || not (nat_lt i (length k.params))) _ x f (row_typed (variable_row m k i) v.tag.place (object_of v.ty) t o)))))

    pub form_row : (p : Part) → Contains (parts_of P m k) p → (x : Row) → Contains (form_rows p) x → (r : ℕ) × (row_number P x.item ≡ Some r)
    form_row p c x d = in_method x (Contains-append_right (heads ++ parameters ++ locals) (flat_map form_rows (parts_of P m k)) x
        (flat_has form_rows (parts_of P m k) p x c d))

    -- sites
    pub site_there : (p : Part) → Contains (parts_of P m k) p → (x : Site) → Contains (form_sites (row_number P) p) x
        → (s : ℕ) × (site_number P x.number ≡ Some s)
    site_there p c x d = (numbered_sites P).there x
        (flat_has (λ b. flat_map (form_sites (row_number P)) b.parts) (bodies_of P) (body_of P m k) x (body_there P m k stands)
        (flat_has (form_sites (row_number P)) (parts_of P m k) p x c d))

  -- points
  abbrev statics : List PointAt
  statics = by_place (λ p. p.place.at) (each static_points 0 P.fields)

  abbrev outlines : List Outline
  outlines = by_place (λ o. o.place.at) (each (outline_if P) 0 P.methods)

  abbrev listed_at : PointAt → List Point
  listed_at p = listed (row_number P) p

  with_row : (p : PointAt) (r : ℕ) → row_number P p.row ≡ Some r → Contains (listed_at p) (record { item = p.item; row = r })
  with_row p r e = subst (λ z. Contains (point_with p z) (record { item = p.item; row = r })) (sym e) (one (record { item = p.item; row = r }))

  pub static_point : (f : ℕ) (k : PlainField) → slice_get P.fields f ≡ Some k → k.is_static ≡ true → (r : ℕ) → row_number P (row.Field f) ≡ Some r
      → (q : ℕ) × (point_number P (point.Static f) ≡ Some q)
  static_point f k e s r h =
      let p : PointAt = record { item = point.Static f; place = k.tag.place; row = row.Field f } in
      let x : Point = record { item = point.Static f; row = r } in
      (numbered_points P).there x (Contains-append_left (flat_map listed_at statics) (flat_map (λ o. flat_map listed_at o.points) outlines) x
      (flat_has listed_at statics p x
      (place_has (λ p. p.place.at) (each static_points 0 P.fields) p (each_has static_points 0 P.fields f k p e f (omega arith)
      (when_has k.is_static _ p s (one p)))) (with_row p r h)))

  module _ (m : ℕ) (k : PlainMethod) (stands : slice_get P.methods m ≡ Some k) (body : is_some k.body ≡ true) where
    pub in_body : (p : PointAt) (r : ℕ) → row_number P p.row ≡ Some r → Contains (method_points P m k) p → (q : ℕ) × (point_number P p.item ≡ Some q)
    in_body p r h c =
        let o : Outline = record { place = k.tag.place; points = method_points P m k } in
        let x : Point = record { item = p.item; row = r } in
        (numbered_points P).there x (Contains-append_right (flat_map listed_at statics) (flat_map (λ o. flat_map listed_at o.points) outlines) x
        (flat_has (λ o. flat_map listed_at o.points) outlines o x
        (place_has (λ o. o.place.at) (each (outline_if P) 0 P.methods) o (each_has (outline_if P) 0 P.methods m k o stands m (omega arith)
        (when_has (is_some k.body) _ o body (one o))))
        (flat_has listed_at (method_points P m k) p x c (with_row p r h))))

    pub this_point : k.is_static ≡ false → (r : ℕ) → row_number P (row.This m) ≡ Some r → (q : ℕ) × (point_number P (point.This m) ≡ Some q)
    this_point s r h =
        let p : PointAt = record { item = point.This m; place = k.tag.place; row = row.This m } in
        in_body p r h (Contains-append_left ((this_points P m k) ++ (param_points P m k) ++ (local_points P m k) ++ (result_points P m k))
        (part_points P m k) p
        (Contains-append_left ((this_points P m k) ++ (param_points P m k) ++ (local_points P m k)) (result_points P m k) p
        (Contains-append_left ((this_points P m k) ++ (param_points P m k)) (local_points P m k) p (Contains-append_left (this_points P m k)
        (param_points P m k) p
        (when_has (not k.is_static) _ p (rw s refl) (one p))))))

    pub variable_point : (i : ℕ) (v : PlainLocal) → slice_get (k.params ++ k.locals) i ≡ Some v → (r : ℕ) → row_number P (variable_row m k i)
        ≡ Some r → (q : ℕ) × (point_number P (point.Local m i) ≡ Some q)
    variable_point i v e r h =
        let p : PointAt = record { item = point.Local m i; place = v.tag.place; row = variable_row m k i } in
        in_body p r h (Contains-append_left ((this_points P m k) ++ (param_points P m k) ++ (local_points P m k) ++ (result_points P m k))
        (part_points P m k) p
        (Contains-append_left ((this_points P m k) ++ (param_points P m k) ++ (local_points P m k)) (result_points P m k) p (⊎_elim
        (λ d. Contains-append_left ((this_points P m k) ++ (param_points P m k)) (local_points P m k) p
        (Contains-append_right (this_points P m k) (param_points P m k) p d))
        (λ d. Contains-append_right ((this_points P m k) ++ (param_points P m k)) (local_points P m k) p d)
        (two_have (variable_points m k) 0 (length k.params) k.params k.locals i v p e (omega arith) i (omega arith) (one p)))))

    pub result_point : (r : ℕ) → row_number P (result_in k.slot m) ≡ Some r → (q : ℕ) × (point_number P (point.Result m) ≡ Some q)
    result_point r h =
        let p : PointAt = record { item = point.Result m; place = k.tag.place; row = result_in k.slot m } in
        in_body p r h (Contains-append_left ((this_points P m k) ++ (param_points P m k) ++ (local_points P m k) ++ (result_points P m k))
        (part_points P m k) p
        (Contains-append_right ((this_points P m k) ++ (param_points P m k) ++ (local_points P m k)) (result_points P m k) p (one p)))

    -- a form that is a point, where its row stands
    pub form_point : (p : Part) → Contains (parts_of P m k) p → (x : PointAt) → Contains (form_points p) x → (r : ℕ) → row_number P x.row ≡ Some r
        → (q : ℕ) × (point_number P x.item ≡ Some q)
    form_point p c x d r h = in_body x r h (Contains-append_right ((this_points P m k) ++ (param_points P m k) ++ (local_points P m k)
        ++ (result_points P m k)) (part_points P m k) x
        (place_has (λ p. p.place.at) (flat_map form_points (parts_of P m k)) x (flat_has form_points (parts_of P m k) p x c d)))

  row_in_there : (o : Option RowItem) (r : ℕ) → number_if (row_number P) o ≡ Some r → (i : RowItem) × (o ≡ Some i) × (row_number P i ≡ Some r)
  row_in_there None r e = absurd (cc)
  row_in_there (Some i) r e = (i, refl, e)

  pub own_listed : (p : Place) (o : Operand) (i : PointItem) (t : ObjectType) (r : ℕ) → o.point ≡ Some i → o.ty ≡ Some t
      → number_if (row_number P) o.row ≡ Some r → (x : PointAt) × Contains (point_of_form p o) x × (x.item ≡ i) × (row_number P x.row ≡ Some r)
  own_listed p o i t r ei et er =
      let w = row_in_there o.row r er in
      let x : PointAt = record { item = i; place = p; row = w.0 } in (
        x,
        subst (λ z. Contains (own_point p z o.row o.ty) x) (sym ei) (subst (λ z. Contains (own_point p (Some i) z o.ty) x) (sym w.1)
            (subst (λ z. Contains (own_point p (Some i) (Some w.0) z) x) (sym et) (one x))),
        refl,
        w.2,
      )

  -- columns
  pub field_column : (f : ℕ) (k : PlainField) → slice_get P.fields f ≡ Some k → k.is_static ≡ false → (c : ℕ) × (column_number P (column.Fld f) ≡ Some c)
  field_column f k e s =
      let x : Column = record { item = column.Fld f; place = k.tag.place } in
      (numbered_columns P).there x (Contains-append_left (each field_columns 0 P.fields) (each (method_columns P) 0 P.methods) x
      (each_has field_columns 0 P.fields f k x e f (omega arith) (when_has (not k.is_static) _ x (rw s refl) (one x))))
