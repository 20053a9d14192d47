-- Believed. The facts of a program: each list has exactly the items that the text gives, in their order or as a set.
use Rattle.std.specs.Prelude.{◌≡◌, ◌↔◌, ℕ, zero, suc, ◌+◌, ◌==◌, ◌&&◌, ◌||◌, if◌then◌else◌, nat_lt, not, Bool, true, false, List, [], ◌∷◌, ◌++◌, length, map, drop, Contains, Option, Some, None, slice_get, codes}
use Rattle.std.specs.Option.{option_map, option_map_or, option_and_then, is_some}
use Rattle.std.specs.List.{flat_map, list_any}
use Rattle.std.specs.Str.{bytes_eq, chars, encode_utf8_all}
use Rattle.std.specs.Fmt.{decimal}
use Rattle.kaba_base.specs.declared.Place.{Place}
use Rattle.kaba_base.specs.declared.ClassId.{ClassId}
use Rattle.kaba_base.specs.declared.ColId.{ColId}
use Rattle.kaba_base.specs.declared.SiteId.{SiteId}
use Rattle.java_core.specs.Programs.{Plain, PlainClass, PlainMethod}
use Rattle.java_core.specs.Makers.{maker_of}
use Rattle.java_core.specs.Classes.{below, first_or}
use Rattle.fact_model.specs.FreeNames.{free_name}
use Rattle.fact_model.specs.declared.facts.Facts.{Facts}
use Rattle.fact_model.specs.declared.facts.RowInfo.{RowInfo}
use Rattle.fact_model.specs.declared.facts.ColumnInfo.{ColumnInfo}
use Rattle.fact_model.specs.declared.facts.ColKind.{ColKind}
use Rattle.fact_model.specs.declared.facts.ColKind.TheVariants as kind
use Rattle.fact_model.specs.declared.facts.SiteInfo.{SiteInfo}
use Rattle.fact_model.specs.declared.facts.ClassInfo.{ClassInfo}
use Rattle.fact_model.specs.declared.facts.CellInfo.{CellInfo}
use Rattle.fact_model.specs.declared.facts.BodyInfo.{BodyInfo}
use Rattle.fact_model.specs.declared.facts.CallInfo.{CallInfo}
use Rattle.fact_model.specs.declared.facts.MakerNames.{MakerNames}
use Rattle.fact_model.specs.declared.facts.MakeInfo.{MakeInfo}
use Rattle.flow_rules.specs.declared.faults.Counted.{Counted}
use Rattle.flow_rules.specs.declared.faults.Counted.TheVariants as counted
use Rattle.flow_rules.specs.declared.faults.FactsFault.{FactsFault}
use Rattle.flow_rules.specs.declared.faults.FactsFault.TheVariants as fault
use Rattle.flow_rules.specs.declared.items.RowItem.{RowItem}
use Rattle.flow_rules.specs.declared.items.RowItem.TheVariants as row
use Rattle.flow_rules.specs.declared.items.ColumnItem.{ColumnItem}
use Rattle.flow_rules.specs.declared.items.ColumnItem.TheVariants as column
use Rattle.flow_rules.specs.declared.items.PointItem.TheVariants as point
use Rattle.flow_rules.specs.declared.items.Row.{Row}
use Rattle.flow_rules.specs.declared.items.Column.{Column}
use Rattle.flow_rules.specs.declared.items.Site.{Site}
use Rattle.flow_rules.specs.Ordered.{by_place, once, each, when}
use Rattle.flow_rules.specs.Parts.{Part}
use Rattle.flow_rules.specs.Numbered.{BodyParts, bodies_of, rows_of, columns_of, sites_of, points_of, row_number, column_number, site_number, point_number}
use Rattle.flow_rules.specs.Spots.{marks_of, numbered_spots}
use Rattle.flow_rules.specs.Lists.{Numbers, PlainCall, news_of, flows_of, loads_of, stores_of, calls_of, casts_of, tests_of, accesses_of, supers_of, ties_of}

-- what there is too much of, and the number one past the limit
pub record TooMany : Type 0 where
  pub what : Counted
  pub number : ℕ

-- how rows and columns are printed, as bytes of UTF-8
abbrev pub class_text : Plain → ℕ → List ℕ
class_text P c = option_map_or (λ k. encode_utf8_all k.name) (slice_get P.classes c) []

-- the name of a method as it is printed: that of a constructor is its class's
abbrev pub shown_name : List ℕ → List ℕ
shown_name [] = []
shown_name (c ∷ cs) = if c == 60 then cs else c ∷ cs

-- a member: its class, a dot and its name
abbrev pub member_text : Plain → ℕ → List ℕ → List ℕ
member_text P c x = class_text P c ++ codes "." ++ encode_utf8_all x

-- a field: its class, a dot and its name
abbrev pub field_text : Plain → ℕ → List ℕ
field_text P f = option_map_or (λ k. member_text P k.owner k.name) (slice_get P.fields f) []

-- a method: its class, a dot and its name
abbrev pub method_text : Plain → ℕ → List ℕ
method_text P m = option_map_or (λ k. member_text P k.owner (shown_name k.name)) (slice_get P.methods m) []

-- the name of a parameter or local of a method, by its number among both
abbrev pub variable_name : Plain → ℕ → ℕ → List ℕ
variable_name P m i = option_map_or (λ k. option_map_or (λ v. v.name) (slice_get (k.params ++ k.locals) i) []) (slice_get P.methods m) []

-- a parameter or local: its method, a dot and its name
abbrev pub variable_text : Plain → ℕ → ℕ → List ℕ
variable_text P m i = method_text P m ++ codes "." ++ encode_utf8_all (variable_name P m i)

-- the first method of a slot
abbrev pub first_of : Plain → ℕ → ℕ
first_of P s = option_map_or (λ z. z.first) (slice_get P.slots s) 0

-- a pair of brackets for each dimension of an array
abbrev pub brackets : ℕ → List ℕ
brackets zero = []
brackets (suc d) = codes "[]" ++ brackets d

-- the line of a place, after an at sign
abbrev pub at_line : Place → List ℕ
at_line p = codes "@" ++ decimal p.line

-- the label of a row, of its item, the name of its class, its dimension and its place
abbrev pub row_text : Plain → RowItem → List ℕ → ℕ → Place → List ℕ
row_text P (row.Field f) t d p = field_text P f
row_text P (row.This m) t d p = method_text P m ++ codes ".this"
row_text P (row.Return s) t d p = method_text P (first_of P s) ++ codes ".return"
row_text P (row.Param s i) t d p = variable_text P (first_of P s) i
row_text P (row.Result m) t d p = method_text P m ++ codes ".return"
row_text P (row.Local m i) t d p = variable_text P m i
row_text P (row.New n) t d p = codes "new " ++ t ++ brackets d ++ at_line p
row_text P (row.Cast n) t d p = codes "cast " ++ t ++ at_line p
row_text P (row.Test n) t d p = codes "instanceof " ++ t ++ at_line p

-- the label of a row as characters
abbrev pub row_label : Plain → Row → List ℕ
row_label P r = chars (row_text P r.item (class_text P r.ty.class.0) r.ty.dim r.place)

-- the label of a column: its kind, and in parentheses the member or the class
abbrev pub column_text : Plain → ColumnItem → List ℕ
column_text P (column.Fld f) = codes "fld(" ++ field_text P f ++ codes ")"
column_text P (column.Dcl m) = codes "dcl(" ++ method_text P m ++ codes ")"
column_text P (column.Def m) = codes "def(" ++ method_text P m ++ codes ")"
column_text P (column.Is c) = codes "is(" ++ class_text P c.0 ++ codes ")"

-- the names of a method, its parameters and its locals
abbrev pub variable_names : PlainMethod → List (List ℕ)
variable_names k = map (λ v. v.name) k.params ++ map (λ v. v.name) k.locals

-- whether a method is a constructor, by its name
abbrev pub is_marked : List ℕ → Bool
is_marked [] = false
is_marked (c ∷ cs) = c == 60

-- the names of a method with its parameters and locals; those of a constructor come apart
abbrev pub method_names : PlainMethod → List (List ℕ)
method_names k = if is_marked k.name then [] else k.name ∷ variable_names k

-- the parameters and locals of a constructor
abbrev pub maker_names : PlainMethod → List (List ℕ)
maker_names k = if is_marked k.name then variable_names k else []

-- the names of the text: of the types but Object, of the fields, of each method with its parameters and locals, and then of the parameters and locals
-- of each constructor
abbrev pub all_names : Plain → List (List ℕ)
all_names P = map (λ k. k.name) (drop 1 P.classes) ++ map (λ f. f.name) P.fields ++ flat_map method_names P.methods ++ flat_map maker_names P.methods

-- ---- the names that are fixed for constructors

-- what a name is fixed for: the slot of the constructor of a class, the holder of the methods that make objects, the local of each, and the method of a
-- site
pub data FixedFor : Type 0 where
  an_init : ℕ → FixedFor
  the_holder : FixedFor
  the_local : FixedFor
  a_make : ℕ → FixedFor

-- what it is fixed for, and a name
pub record FixedName : Type 0 where
  pub for : FixedFor
  pub name : List ℕ

-- whether it is fixed for the same
abbrev pub same_fixed : FixedFor → FixedFor → Bool
same_fixed (an_init c) (an_init d) = c == d
same_fixed the_holder the_holder = true
same_fixed the_local the_local = true
same_fixed (a_make i) (a_make j) = i == j
same_fixed _ _ = false

-- the names that are wished for the slots of constructors: `init_` and the class's name, by class
abbrev pub wished_inits : Plain → ℕ → PlainClass → List FixedName
wished_inits P c k = when (is_some (maker_of P c)) (record { for = an_init c; name = codes "init_" ++ k.name } ∷ [])

-- that of a site: `make_` and its number, where its class has a constructor
abbrev pub wished_makes : Plain → ℕ → Site → List FixedName
wished_makes P i s = when ((s.ty.dim == 0) && is_some (maker_of P s.ty.class.0)) (record { for = a_make i; name = codes "make_" ++ decimal i } ∷ [])

-- those of the holder and of the local stand before the sites', where there is a site
abbrev pub wished_behind : List FixedName → List FixedName
wished_behind [] = []
wished_behind (m ∷ ms) = record { for = the_holder; name = codes "Makers" } ∷ record { for = the_local; name = codes "made" } ∷ m ∷ ms

-- each of the names, with as many underscores behind it as it needs to be none of those taken, nor of those before it
abbrev pub fixed_from : List (List ℕ) → List FixedName → List FixedName
fixed_from taken [] = []
fixed_from taken (w ∷ ws) =
    let name = free_name taken w.name in
    record { for = w.for; name = name } ∷ fixed_from (taken ++ name ∷ []) ws

-- the words of the text
abbrev pub text_words : Plain → List (List ℕ)
text_words P = once bytes_eq encode_utf8_all (all_names P)

-- the names that are fixed, in their order
abbrev pub fixed_names : Plain → List FixedName
fixed_names P = fixed_from (text_words P) (each (wished_inits P) 0 P.classes ++ wished_behind (each (wished_makes P) 0 (sites_of P)))

-- the name that is fixed for something, where one is
abbrev pub name_for : FixedFor → List FixedName → Option (List ℕ)
name_for i [] = None
name_for i (f ∷ fs) = if same_fixed i f.for then Some f.name else name_for i fs

-- the words of the text, and behind them the fixed names
abbrev pub all_words : Plain → List (List ℕ)
all_words P = text_words P ++ map (λ f. f.name) (fixed_names P)

-- the name under which a method's columns stand: that of a constructor is the one that is fixed for its slot
abbrev pub column_name : Plain → PlainMethod → List ℕ
column_name P k = if is_marked k.name then option_map_or (λ n. n) (name_for (an_init k.owner) (fixed_names P)) [] else k.name

-- the class, the slot and the name of what a column stands for
abbrev pub kind_of : ColumnItem → ColKind
kind_of (column.Fld f) = kind.Fld
kind_of (column.Dcl m) = kind.Dcl
kind_of (column.Def m) = kind.Def
kind_of (column.Is c) = kind.Is

-- the class or interface that declares the member of a column, or whose mark it is
abbrev pub owner_of : Plain → ColumnItem → ℕ
owner_of P (column.Fld f) = option_map_or (λ k. k.owner) (slice_get P.fields f) 0
owner_of P (column.Dcl m) = option_map_or (λ k. k.owner) (slice_get P.methods m) 0
owner_of P (column.Def m) = option_map_or (λ k. k.owner) (slice_get P.methods m) 0
owner_of P (column.Is c) = c.0

-- the slot of the method of a column; a field and a mark have none
abbrev pub slot_in : Plain → ColumnItem → Option ℕ
slot_in P (column.Fld f) = None
slot_in P (column.Dcl m) = option_and_then (λ k. k.slot) (slice_get P.methods m)
slot_in P (column.Def m) = option_and_then (λ k. k.slot) (slice_get P.methods m)
slot_in P (column.Is c) = None

-- the simple name of the member or class of a column
abbrev pub name_in : Plain → ColumnItem → List ℕ
name_in P (column.Fld f) = option_map_or (λ k. k.name) (slice_get P.fields f) []
name_in P (column.Dcl m) = option_map_or (column_name P) (slice_get P.methods m) []
name_in P (column.Def m) = option_map_or (column_name P) (slice_get P.methods m) []
name_in P (column.Is c) = option_map_or (λ k. k.name) (slice_get P.classes c.0) []

-- a column as the facts list it
abbrev pub column_info : Plain → ColumnItem → ColumnInfo
column_info P i = record { kind = kind_of i; class = record { 0 = owner_of P i }; slot = slot_in P i; name = name_in P i; label = chars (column_text P i) }

-- a body by its column, and a call, as plain data
pub record PlainBody : Type 0 where
  pub column : ℕ
  pub this : ℕ
  pub params : List (Option ℕ)
  pub result : Option ℕ

-- a body of the facts as plain data
abbrev pub body_seen : BodyInfo → PlainBody
body_seen b = record { column = b.column.0; this = b.this; params = b.params.items; result = b.result }

-- a call of the facts as plain data
abbrev pub call_seen : CallInfo → PlainCall
call_seen c = record { receiver = c.receiver; slot = c.slot; args = c.args.items; result = c.result }

-- a field that has a row: its column, its row and its class
pub record FieldCell : Type 0 where
  pub column : ℕ
  pub row : ℕ
  pub owner : ℕ

-- a class or interface, and whether it has static members
pub record ClassFacts : Type 0 where
  pub name : List ℕ
  pub parent : Option ClassId
  pub faces : List ClassId
  pub is_interface : Bool
  pub holder : Bool

-- a class of the facts as plain data
abbrev pub class_seen : ClassInfo → ClassFacts
class_seen k = record { name = k.name; parent = k.parent; faces = k.faces.items; is_interface = k.is_interface; holder = k.holder }

-- whether a class declares a static field or a static method
abbrev pub is_holder : Plain → ℕ → Bool
is_holder P c = list_any (λ f. f.is_static && (f.owner == c)) P.fields || list_any (λ m. m.is_static && (m.owner == c)) P.methods

-- the entry of the class c of the program, as a list of one
abbrev pub class_facts : Plain → ℕ → PlainClass → List ClassFacts
class_facts P c k = record { name = k.name; parent = k.parent; faces = k.faces; is_interface = k.is_interface; holder = is_holder P c } ∷ []

-- two lists have the same items
abbrev pub IsSameSet : {A : Type 0} → List A → List A → Type 0
IsSameSet {A} xs ys = (x : A) → Contains xs x ↔ Contains ys x

-- the names of the holder and of the local of the methods that make objects, as plain data
pub record PlainMakers : Type 0 where
  pub holder : List ℕ
  pub local : List ℕ

-- those of the facts
abbrev pub makers_seen : MakerNames → PlainMakers
makers_seen m = record { holder = m.holder; local = m.local }

-- those that are fixed, where a creation has a constructor
abbrev pub makers_of : Plain → Option PlainMakers
makers_of P =
    option_and_then (λ h. option_map (λ l. record { holder = h; local = l }) (name_for the_local (fixed_names P))) (name_for the_holder (fixed_names P))

-- the name of the method that makes the objects of a site
pub record PlainMake : Type 0 where
  pub site : ℕ
  pub name : List ℕ

-- one of the facts
abbrev pub make_seen : MakeInfo → PlainMake
make_seen m = record { site = m.site.0; name = m.name }

-- the site that a name is fixed for, with the name; other names give none
abbrev pub make_of : FixedName → List PlainMake
make_of f = made f.for f.name
  where
    made : FixedFor → List ℕ → List PlainMake
    made (a_make i) n = record { site = i; name = n } ∷ []
    made (an_init c) n = []
    made the_holder n = []
    made the_local n = []

module _ (N : Numbers) where
  -- the site of a creation's row, and the body of a `this`
  abbrev pub site_of_row : RowItem → Option SiteId
  site_of_row (row.New n) = option_map (λ s. record { 0 = s }) (N.site n)
  site_of_row _ = None

  -- the column of the body whose `this` a row is; other rows have none
  abbrev pub this_of_row : RowItem → Option ColId
  this_of_row (row.This m) = option_map (λ c. record { 0 = c }) (N.column (column.Def m))
  this_of_row _ = None

module _ (N : Numbers) (P : Plain) where
  -- a row as the facts list it
  abbrev pub row_info : Row → RowInfo
  row_info r = record { label = row_label P r; class = r.ty.class; dim = r.ty.dim; site = site_of_row N r.item; this_of = this_of_row N r.item }

  -- a field that has a row: its column, its row and its class
  abbrev pub field_if : ℕ → ℕ → Option ℕ → List FieldCell
  field_if c o None = []
  field_if c o (Some r) = record { column = c; row = r; owner = o } ∷ []

  -- the field that the column of number c is, where it has a row; other columns give none
  abbrev pub field_at : ℕ → ColumnItem → List FieldCell
  field_at c (column.Fld f) = field_if c (owner_of P (column.Fld f)) (N.row (row.Field f))
  field_at c (column.Dcl m) = []
  field_at c (column.Def m) = []
  field_at c (column.Is b) = []

  -- the fields that have a row, in the order of their columns
  abbrev pub fields_of : List Column → List FieldCell
  fields_of cs = each (λ c k. field_at c k.item) 0 cs

  -- the flow point of each parameter of a method, where it has one
  abbrev pub param_points : ℕ → PlainMethod → List (Option ℕ)
  param_points m k = each (λ i v. N.point (point.Local m i) ∷ []) 0 k.params

  -- a method's body with its column, and its points, where its `this` has one
  abbrev pub body_if : ℕ → ℕ → PlainMethod → Option ℕ → List PlainBody
  body_if c m k None = []
  body_if c m k (Some t) = record { column = c; this = t; params = param_points m k; result = N.point (point.Result m) } ∷ []

  -- the body that a column is; other columns give none
  abbrev pub column_body : ℕ → ColumnItem → List PlainBody
  column_body c (column.Def m) = option_map_or (λ k. body_if c m k (N.point (point.This m))) (slice_get P.methods m) []
  column_body c (column.Fld f) = []
  column_body c (column.Dcl m) = []
  column_body c (column.Is a) = []

-- a creation site as the facts list it
abbrev pub site_info : Site → SiteInfo
site_info s = record { row = record { 0 = s.row }; class = s.ty.class; dim = s.ty.dim }

-- the cell of the object site i of class a for a field of a class at or above a
abbrev pub field_cell : Plain → ℕ → ℕ → FieldCell → List CellInfo
field_cell P i a k = when (below P a k.owner) (record { site = record { 0 = i }; column = Some (record { 0 = k.column }); row = record { 0 = k.row } } ∷ [])

-- the one cell of the array site i, whose elements are typed by the row r
abbrev pub array_cell : ℕ → ℕ → List CellInfo
array_cell i r = record { site = record { 0 = i }; column = None; row = record { 0 = r } } ∷ []

-- the cells of a site: one for each field of an object, in the order of the columns, and one for an array
abbrev pub site_cells : Plain → List FieldCell → ℕ → Site → List CellInfo
site_cells P fs i s = if s.ty.dim == 0 then flat_map (field_cell P i s.ty.class.0) fs else array_cell i s.row

-- the names of the fields, parameters and locals
abbrev pub all_variables : Plain → List (List ℕ)
all_variables P = map (λ f. f.name) P.fields ++ flat_map variable_names P.methods

module _ (P : Plain) where
  -- the numbers that rows, columns, sites and flow points of a program have by their place
  unfoldable pub numbers : Numbers
  numbers = record { row = row_number P; column = column_number P; site = site_number P; point = point_number P }

  -- the cells by site, and then by column
  unfoldable pub cells_of : List CellInfo
  cells_of = each (site_cells P (fields_of numbers P (columns_of P))) 0 (sites_of P)

  -- what the parts of all bodies give
  abbrev pub gathered : {A : Type 0} → (BodyParts → Part → List A) → List A
  gathered f = flat_map (λ b. flat_map (f b) b.parts) (bodies_of P)

  -- the facts of a program
  pub record IsFactsOf (F : Facts) : Type 0 where
    pub rows : F.rows.items ≡ map (row_info numbers P) (rows_of P)
    pub columns : F.columns.items ≡ map (λ c. column_info P c.item) (columns_of P)
    pub sites : F.sites.items ≡ map site_info (sites_of P)
    pub classes : map class_seen F.classes.items ≡ each (class_facts P) 0 P.classes
    pub points : F.points.items ≡ map (λ p. record { 0 = p.row }) (points_of P)
    pub cells : F.cells.items ≡ cells_of
    pub news : IsSameSet F.news.items (gathered (λ b. news_of numbers b.number))
    pub flows : IsSameSet F.flows.items (gathered (λ b. flows_of numbers b.number))
    pub loads : IsSameSet F.loads.items (gathered (λ b. loads_of numbers))
    pub stores : IsSameSet F.stores.items (gathered (λ b. stores_of numbers))
    pub bodies : map body_seen F.bodies.items ≡ each (λ c k. column_body numbers P c k.item) 0 (columns_of P)
    pub calls : map call_seen F.calls.items ≡ map (λ c. c.item) (by_place (λ c. c.place.at) (gathered (λ b. calls_of numbers)))
    pub casts : IsSameSet F.casts.items (gathered (λ b. casts_of numbers))
    pub accesses : IsSameSet F.accesses.items (gathered (λ b. accesses_of numbers))
    pub supers : IsSameSet F.supers.items (gathered (λ b. supers_of numbers b.number))
    pub ties : IsSameSet F.ties.items (gathered (λ b. ties_of numbers P b.number b.slot))
    pub tests : F.tests.items ≡ by_place (λ t. t.place.at) (gathered (λ b. tests_of numbers))
    -- what is fixed for creations that have a constructor
    pub makers : option_map makers_seen F.makers ≡ makers_of P
    pub makes : map make_seen F.makes.items ≡ flat_map make_of (fixed_names P)
    -- the casts and the calls through a receiver, by place
    pub spots : F.spots.items ≡ numbered_spots 0 0 (by_place (λ x. x.place.at) (gathered (λ b. marks_of P numbers)))

-- the names in the facts: each of the text once, in the order of the program, and those of the variables
pub record AreNamesOf (P : Plain) (F : Facts) : Type 0 where
  pub words : F.words.items ≡ all_words P
  pub vars : IsSameSet F.vars.items (all_variables P)

-- how many of each kind there may be
abbrev pub over : ℕ → ℕ → Counted → Option TooMany → Option TooMany
over limit n what rest = if nat_lt limit n then Some (record { what = what; number = limit + 1 }) else rest

-- what there is too much of, the rows first, then the columns, the sites, and the flow points with the cells
abbrev pub too_many : Plain → Option TooMany
too_many P =
    over 16384 (length (rows_of P)) counted.Rows
    (over 8192 (length (columns_of P)) counted.Columns
    (over 8192 (length (sites_of P)) counted.Sites (over 65536 (length (points_of P) + length (cells_of P)) counted.Points None)))

-- what a fault says of the program: there is too much of something, or no memory
abbrev pub IsFactsRefusal : Plain → FactsFault → Type 0
IsFactsRefusal P (fault.TooMany what n) = too_many P ≡ Some (record { what = what; number = n })
IsFactsRefusal P fault.Memory = Unit {0}

-- a program of which the facts can be given: there is not too much of anything
pub record IsWithinLimits (P : Plain) : Type 0 where
  pub counts : too_many P ≡ None
