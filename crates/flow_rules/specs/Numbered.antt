-- Believed. Rows, columns, sites and flow points, each numbered by its place.
use Rattle.std.specs.Prelude.{ℕ, ◌==◌, ◌&&◌, ◌||◌, nat_lt, nat_eq, Bool, true, false, not, List, [], ◌∷◌, ◌++◌, length, map, Option, Some, None, slice_get, position}
use Rattle.std.specs.Option.{option_map_or, is_some}
use Rattle.std.specs.List.{flat_map}
use Rattle.kaba_base.specs.declared.Place.{Place}
use Rattle.java_core.specs.Programs.{Plain, PlainField, PlainMethod, PlainLocal, PlainSlot}
use Rattle.flow_rules.specs.declared.items.ObjectType.{ObjectType}
use Rattle.flow_rules.specs.declared.items.Operand.{Operand}
use Rattle.flow_rules.specs.declared.items.RowItem.{RowItem}
use Rattle.flow_rules.specs.declared.items.RowItem.TheVariants as row
use Rattle.flow_rules.specs.declared.items.ColumnItem.{ColumnItem}
use Rattle.flow_rules.specs.declared.items.ColumnItem.TheVariants as column
use Rattle.flow_rules.specs.declared.items.PointItem.{PointItem}
use Rattle.flow_rules.specs.declared.items.PointItem.TheVariants as point
use Rattle.flow_rules.specs.declared.items.Row.{Row}
use Rattle.flow_rules.specs.declared.items.Column.{Column}
use Rattle.flow_rules.specs.declared.items.Site.{Site}
use Rattle.flow_rules.specs.declared.items.Point.{Point}
use Rattle.flow_rules.specs.declared.items.PointAt.{PointAt}
use Rattle.flow_rules.specs.Ordered.{by_place, once, each, when}
use Rattle.flow_rules.specs.Operands.{class_object, object_of, object_if, variable_row, result_in}
use Rattle.flow_rules.specs.Parts.{Part, a_load, an_element, a_creation, a_call, a_static_call, a_super_call, a_test, parts_of}

-- whether two row items are the same
abbrev pub same_row : RowItem → RowItem → Bool
same_row (row.Field f) (row.Field g) = f == g
same_row (row.This f) (row.This g) = f == g
same_row (row.Return f) (row.Return g) = f == g
same_row (row.Param s i) (row.Param t j) = (s == t) && (i == j)
same_row (row.Result f) (row.Result g) = f == g
same_row (row.Local s i) (row.Local t j) = (s == t) && (i == j)
same_row (row.New f) (row.New g) = f == g
same_row (row.Cast f) (row.Cast g) = f == g
same_row (row.Test f) (row.Test g) = f == g
same_row _ _ = false

-- whether two column items are the same
abbrev pub same_column : ColumnItem → ColumnItem → Bool
same_column (column.Fld f) (column.Fld g) = f == g
same_column (column.Dcl f) (column.Dcl g) = f == g
same_column (column.Def f) (column.Def g) = f == g
same_column (column.Is f) (column.Is g) = f.0 == g.0
same_column _ _ = false

-- whether two items of flow points are the same
abbrev pub same_point : PointItem → PointItem → Bool
same_point (point.Static f) (point.Static g) = f == g
same_point (point.This f) (point.This g) = f == g
same_point (point.Local s i) (point.Local t j) = (s == t) && (i == j)
same_point (point.Result f) (point.Result g) = f == g
same_point (point.Expr s i) (point.Expr t j) = (s == t) && (i == j)
same_point _ _ = false

-- a row, where it has a type that a row can have
abbrev pub row_if : RowItem → Place → Option ObjectType → List Row
row_if i p None = []
row_if i p (Some t) = record { item = i; place = p; ty = t } ∷ []

-- the row of a creation, a cast or an `instanceof` itself
abbrev pub own_row : Place → Option RowItem → Option ObjectType → List Row
own_row p None t = []
own_row p (Some i) t = row_if i p t

-- the row that a creation, a cast or an `instanceof` adds; other parts add none
abbrev pub form_rows : Part → List Row
form_rows (a_creation p u o s d es) = own_row p o.row o.ty
form_rows (a_test p e o) = own_row p o.row o.ty
form_rows _ = []

-- the mark of a tested type, and of an array's base
abbrev pub mark : Place → Option ObjectType → List Column
mark p None = []
mark p (Some t) = record { item = column.Is t.class; place = p } ∷ []

-- the mark of the base of an array; an object that is no array has none here
abbrev pub array_mark : Place → Option ObjectType → List Column
array_mark p None = []
array_mark p (Some t) = when (not (t.dim == 0)) (record { item = column.Is t.class; place = p } ∷ [])

-- the marks that a creation of an array, a cast or an `instanceof` adds
abbrev pub form_columns : Part → List Column
form_columns (a_creation p u o s d es) = array_mark p o.ty
form_columns (a_test p e o) = mark p o.ty
form_columns _ = []

-- whether a method is the first of its slot, whose return and parameters then have the rows; a static method has its own
abbrev pub is_first_in : ℕ → Option PlainSlot → Bool
is_first_in m None = false
is_first_in m (Some z) = z.first == m

-- whether a method is the one whose return and parameters have the rows: the first of its slot, or static
abbrev pub is_first : Plain → ℕ → PlainMethod → Bool
is_first P m k = option_map_or (λ s. is_first_in m (slice_get P.slots s)) k.slot true

-- what may be a flow point, of a type that a row can have
abbrev pub own_point : Place → Option PointItem → Option RowItem → Option ObjectType → List PointAt
own_point p (Some i) (Some r) (Some t) = record { item = i; place = p; row = r } ∷ []
own_point p _ _ _ = []

-- an operand at a place, where it may be a flow point
abbrev pub point_of_form : Place → Operand → List PointAt
point_of_form p o = own_point p o.point o.row o.ty

-- a load, a call, a cast, an `instanceof`, and a creation where it is one
abbrev pub form_points : Part → List PointAt
form_points (a_load p b f o) = point_of_form p o
form_points (an_element p b o) = point_of_form p o
form_points (a_creation p u o s d es) = when u (point_of_form p o)
form_points (a_call p b s d es o) = point_of_form p o
form_points (a_static_call p m es o) = point_of_form p o
form_points (a_super_call p m es o) = point_of_form p o
form_points (a_test p e o) = point_of_form p o
form_points _ = []

-- a method with the parts of its body
pub record BodyParts : Type 0 where
  pub number : ℕ
  pub slot : Option ℕ
  pub parts : List Part

-- the place of a body, and what may be its flow points
pub record Outline : Type 0 where
  pub place : Place
  pub points : List PointAt

-- the row of a field, where its type is one that a row can have
abbrev pub field_rows : ℕ → PlainField → List Row
field_rows f k = row_if (row.Field f) k.tag.place (object_of k.ty)

-- the row of a `this`: each instance method with a body has one
abbrev pub this_rows : ℕ → PlainMethod → List Row
this_rows m k = when (is_some k.body && not k.is_static) (row_if (row.This m) k.tag.place (class_object k.owner))

-- the column of a field; a static field has none
abbrev pub field_columns : ℕ → PlainField → List Column
field_columns f k = when (not k.is_static) (record { item = column.Fld f; place = k.tag.place } ∷ [])

-- a creation of a type that a row can have, with its row
abbrev pub site_if : Place → Option ℕ → Option ObjectType → Option ℕ → List Site
site_if p (Some n) (Some t) (Some r) = record { number = n; place = p; ty = t; row = r } ∷ []
site_if p _ _ _ = []

-- the flow point of a static field; an instance field has cells instead
abbrev pub static_points : ℕ → PlainField → List PointAt
static_points f k = when k.is_static (record { item = point.Static f; place = k.tag.place; row = row.Field f } ∷ [])

-- what may be the flow point of a parameter or local
abbrev pub variable_points : ℕ → PlainMethod → ℕ → PlainLocal → List PointAt
variable_points m k i v = record { item = point.Local m i; place = v.tag.place; row = variable_row m k i } ∷ []

-- a flow point has a row
abbrev pub point_with : PointAt → Option ℕ → List Point
point_with p None = []
point_with p (Some r) = record { item = p.item; row = r } ∷ []

-- the number of an item among others
abbrev pub number_among : {K : Type 0} → (K → K → Bool) → List K → K → Option ℕ
number_among eq keys i = position (eq i) keys

module _ (number : RowItem → Option ℕ) where
  -- the number of an item's row, where there is an item
  abbrev pub number_if : Option RowItem → Option ℕ
  number_if None = None
  number_if (Some i) = number i

  -- a creation of a type that a row can have
  abbrev pub form_sites : Part → List Site
  form_sites (a_creation p u o s d es) = site_if p o.created o.ty (number_if o.row)
  form_sites _ = []

  -- a flow point has a row
  abbrev pub listed : PointAt → List Point
  listed p = point_with p (number p.row)

module _ (P : Plain) where
  -- the row of what a method gives back, listed with the first method of its slot
  abbrev pub result_rows : ℕ → PlainMethod → List Row
  result_rows m k = when (is_first P m k) (row_if (result_in k.slot m) k.tag.place (object_if k.result))

  -- the row of a parameter, listed with the first method of its slot, or of a local
  abbrev pub variable_rows : ℕ → PlainMethod → ℕ → PlainLocal → List Row
  variable_rows m k i v = when (is_first P m k || not (nat_lt i (length k.params))) (row_if (variable_row m k i) v.tag.place (object_of v.ty))

  -- the rows of a method: its `this`, its result, its parameters, its locals and those of its body's parts
  abbrev pub method_rows : ℕ → PlainMethod → List Row
  method_rows m k = this_rows m k ++ result_rows m k ++ each (variable_rows m k) 0 k.params ++ each (variable_rows m k) (length k.params) k.locals
      ++ flat_map form_rows (parts_of P m k)

  -- the rows by their place
  unfoldable pub rows_of : List Row
  rows_of = once same_row (λ r. r.item) (by_place (λ r. r.place.at) (each field_rows 0 P.fields ++ each method_rows 0 P.methods))

  -- the columns of a method: its declaration and its body, and the marks of its body's parts
  abbrev pub method_columns : ℕ → PlainMethod → List Column
  method_columns m k =
      when (not k.is_static) (record { item = column.Dcl m; place = k.tag.place } ∷ when (is_some k.body)
      (record { item = column.Def m; place = k.tag.place } ∷ []))
      ++ flat_map form_columns (parts_of P m k)

  -- the columns by their place; a mark stands where it is first met
  unfoldable pub columns_of : List Column
  columns_of = once same_column (λ c. c.item) (by_place (λ c. c.place.at) (each field_columns 0 P.fields ++ each method_columns 0 P.methods))

  -- the numbers of a row and of a column
  unfoldable pub row_number : RowItem → Option ℕ
  row_number i = number_among same_row (map (λ r. r.item) rows_of) i

  -- the number of a column
  unfoldable pub column_number : ColumnItem → Option ℕ
  column_number i = number_among same_column (map (λ c. c.item) columns_of) i

  -- the bodies in the order of the program, each with its parts
  abbrev pub body_at : ℕ → PlainMethod → List BodyParts
  body_at m k = record { number = m; slot = k.slot; parts = parts_of P m k } ∷ []

  -- all bodies of the program
  unfoldable pub bodies_of : List BodyParts
  bodies_of = each body_at 0 P.methods

  -- the sites by their place
  unfoldable pub sites_of : List Site
  sites_of = once nat_eq (λ s. s.number) (by_place (λ s. s.place.at) (flat_map (λ b. flat_map (form_sites row_number) b.parts) bodies_of))

  -- the number of the site of a creation
  unfoldable pub site_number : ℕ → Option ℕ
  site_number n = number_among nat_eq (map (λ s. s.number) sites_of) n

  -- what may be a flow point of a body: `this`, the parameters, the locals, the result, and then the expressions by their place
  abbrev pub method_points : ℕ → PlainMethod → List PointAt
  method_points m k =
      when (not k.is_static) (record { item = point.This m; place = k.tag.place; row = row.This m } ∷ [])
      ++ each (variable_points m k) 0 k.params
      ++ each (variable_points m k) (length k.params) k.locals
      ++ record { item = point.Result m; place = k.tag.place; row = result_in k.slot m } ∷ []
      ++ by_place (λ p. p.place.at) (flat_map form_points (parts_of P m k))

  -- the outline of a method's body, where it has one
  abbrev pub outline_if : ℕ → PlainMethod → List Outline
  outline_if m k = when (is_some k.body) (record { place = k.tag.place; points = method_points m k } ∷ [])

  -- the flow points: the static fields by their place, and then the bodies' by the place of the body
  unfoldable pub points_of : List Point
  points_of = once same_point (λ p. p.item)
      (flat_map (listed row_number) (by_place (λ p. p.place.at) (each static_points 0 P.fields))
      ++ flat_map (λ o. flat_map (listed row_number) o.points) (by_place (λ o. o.place.at) (each outline_if 0 P.methods)))

  -- the number of a flow point
  unfoldable pub point_number : PointItem → Option ℕ
  point_number i = number_among same_point (map (λ p. p.item) points_of) i
