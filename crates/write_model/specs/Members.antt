-- Believed. The members that the type of a node has, and those of a holder.
use Rattle.std.specs.Prelude.{pos, ℕ, zero, suc, ◌==◌, ◌&&◌, Bool, true, false, not, List, [], ◌∷◌, ◌++◌, map, Option, Some, None, slice_get}
use Rattle.std.specs.Option.{option_map, option_map_or}
use Rattle.std.specs.List.{flat_map}
use Rattle.kaba_base.specs.declared.words.Keyword.TheVariants.{Public, Abstract, Static}
use Rattle.java_tree.specs.declared.Modifier.{Modifier}
use Rattle.java_tree.specs.declared.TypeBase.TheVariants as base
use Rattle.java_tree.specs.declared.Param.{Param}
use Rattle.java_tree.specs.declared.TypeName.{TypeName}
use Rattle.java_tree.specs.Syntax.{Expression, IntLit, BoolLit, NullLit, NameRef, CallOn, NewOf, CastOf, LocalOf, DoOf, ReturnOf, Expressions, no_more, and_more, Statements, no_statements, and_then, HeadTree, MemberTree, FieldTree, MethodTree}
use Rattle.java_core.specs.declared.Ty.{Ty}
use Rattle.java_core.specs.declared.TyBase.{TyBase}
use Rattle.java_core.specs.declared.TyBase.TheVariants.{Int, Boolean, Char, Str, Class}
use Rattle.java_core.specs.Programs.{Plain, PlainField, PlainLocal, PlainMethod, PlainSlot}
use Rattle.java_core.specs.Makers.{maker_of, maker_slot}
use Rattle.java_core.specs.Types.{class_type}
use Rattle.fact_model.specs.declared.facts.Facts.{Facts}
use Rattle.fact_model.specs.declared.facts.ColumnInfo.{ColumnInfo}
use Rattle.fact_model.specs.declared.facts.ColKind.{ColKind}
use Rattle.fact_model.specs.declared.facts.ColKind.TheVariants as kind
use Rattle.fact_model.specs.Items.{column_kind, column_slot}
use Rattle.fact_model.specs.Classes.{is_slot}
use Rattle.hier_model.specs.Hierarchies.{Hierarchy, stands_at, any_below}
use Rattle.flow_rules.specs.declared.items.ColumnItem.{ColumnItem}
use Rattle.flow_rules.specs.declared.items.ColumnItem.TheVariants as column
use Rattle.flow_rules.specs.declared.items.RowItem.TheVariants as row
use Rattle.flow_rules.specs.declared.items.Site.{Site}
use Rattle.flow_rules.specs.Numbered.{sites_of}
use Rattle.flow_rules.specs.Facts.{is_marked}
use Rattle.flow_rules.specs.Ordered.{each, when}
use Rattle.flow_rules.specs.Operands.{variable_row, result_in}
use Rattle.rebuild_model.specs.Renaming.{Renaming}
use Rattle.rebuild_model.specs.Members.{is_headed, is_filled}
use Rattle.write_model.specs.Names.{nowhere, id, modifier, makers_local, row_name, written_type}
use Rattle.write_model.specs.Bodies.{written_sts}

-- whether a column of this kind is the declaration of a method
abbrev pub is_declaration : ColKind → Bool
is_declaration kind.Dcl = true
is_declaration kind.Fld = false
is_declaration kind.Def = false
is_declaration kind.Is = false

-- what a filler gives back
abbrev pub value_of_none : TyBase → ℕ → Expression
value_of_none Int zero = IntLit (pos 0) nowhere
value_of_none Boolean zero = BoolLit false nowhere
value_of_none Char zero = CastOf (record { base = base.Char; dim = 0; place = nowhere }) (IntLit (pos 0) nowhere) nowhere
value_of_none Int (suc d) = NullLit nowhere
value_of_none Boolean (suc d) = NullLit nowhere
value_of_none Char (suc d) = NullLit nowhere
value_of_none Str d = NullLit nowhere
value_of_none (Class c) d = NullLit nowhere

-- the body of a filler: it gives back the default of the result, or nothing where there is none
abbrev pub filling : Option Ty → Statements
filling None = no_statements
filling (Some t) = and_then (ReturnOf (Some (value_of_none t.base t.dim)) nowhere) no_statements

-- the parameters of a method when its body begins, by their numbers
abbrev pub parameters : ℕ → List PlainLocal → List ℕ
parameters i [] = []
parameters i (v ∷ vs) = i ∷ parameters (suc i) vs

-- the parameters of a method, as arguments
abbrev pub passed : List PlainLocal → Expressions
passed [] = no_more
passed (v ∷ vs) = and_more (NameRef v.name nowhere) (passed vs)

-- the slots in the order in which they are filled in: those of constructors behind the others, by class
abbrev pub filled_slots : Plain → List ℕ
filled_slots P = each (λ x s. when (not (is_marked s.name)) (x ∷ [])) 0 P.slots
    ++ each (λ c k. option_map_or (λ x. x ∷ []) (maker_slot P c) []) 0 P.classes

module _ (P : Plain) (R : Renaming) (H : Hierarchy) where
  -- a parameter of a method, with the type of its row's node and its old name
  abbrev pub param : ℕ → PlainMethod → ℕ → PlainLocal → Param
  param m k i v = record { is_final = false; ty = written_type P H (R.row_type (variable_row m k i)) v.ty; name = v.name; place = nowhere }

  -- the head of a method, under a name
  abbrev pub head : List Modifier → List ℕ → ℕ → PlainMethod → HeadTree
  head mods name m k = record {
    mods = mods;
    type = option_map (written_type P H (R.row_type (result_in k.slot m))) k.result;
    name = name;
    params = each (λ i v. param m k i v ∷ []) 0 k.params;
    place = nowhere;
  }

  -- the body of a method as it is written, where it has one
  abbrev pub body : ℕ → PlainMethod → Option Statements
  body m k = option_map (written_sts P R H m k (parameters 0 k.params)) k.body

  -- the head of a slot, with the names of the parameters of its first method
  abbrev pub first_head : List Modifier → PlainSlot → List HeadTree
  first_head mods s = option_map_or (λ k. head mods (R.method_name s.first) s.first k ∷ []) (slice_get P.methods s.first) []

  -- the head of a slot by its number, as a list of one
  abbrev pub slot_head : List Modifier → ℕ → List HeadTree
  slot_head mods x = option_map_or (first_head mods) (slice_get P.slots x) []

  -- a field with its new type and its new name
  abbrev pub field_member : ℕ → PlainField → MemberTree
  field_member f k = FieldTree [] (written_type P H (R.row_type (row.Field f)) k.ty) (R.field_name f) nowhere

  -- a method with its body, public and under its new name
  abbrev pub body_member : ℕ → PlainMethod → MemberTree
  body_member m k = MethodTree (head (modifier Public ∷ []) (R.method_name m) m k) (body m k) nowhere

  -- the static members of a holder keep their names
  abbrev pub static_field_member : ℕ → ℕ → PlainField → List MemberTree
  static_field_member c f k = when (k.is_static && (k.owner == c)) (FieldTree (modifier Public ∷ modifier Static ∷ [])
      (written_type P H (R.row_type (row.Field f)) k.ty) k.name nowhere ∷ [])

  -- the static method m, where it is one of the class c, public and under its old name
  abbrev pub static_method_member : ℕ → ℕ → PlainMethod → List MemberTree
  static_method_member c m k = when (k.is_static && (k.owner == c)) (MethodTree (head (modifier Public ∷ modifier Static ∷ []) k.name m k)
      (body m k) nowhere ∷ [])

  -- the type of the objects of a creation of a class
  abbrev pub object_type : ℕ → ℕ → TypeName
  object_type n c = written_type P H (R.row_type (row.New n)) (class_type c)

  -- the head of the method that makes the objects of a creation: it takes what the constructor takes
  abbrev pub make_head : ℕ → ℕ → ℕ → PlainMethod → HeadTree
  make_head n c m k = record {
    mods = modifier Public ∷ modifier Static ∷ [];
    type = Some (object_type n c);
    name = R.make_name n;
    params = each (λ i v. param m k i v ∷ []) 0 k.params;
    place = nowhere;
  }

  -- its body: the object is created and kept, the method that the constructor is written as is called on it, and it is given back
  abbrev pub make_body : ℕ → ℕ → ℕ → PlainMethod → Statements
  make_body n c m k =
      let made = NameRef (makers_local P) nowhere in
      and_then (LocalOf false (object_type n c) (makers_local P) (Some (NewOf (id (row_name P H (R.row_type (row.New n)) c)) no_more nowhere)) nowhere)
      (and_then (DoOf (CallOn made (R.method_name m) (passed k.params) nowhere) nowhere) (and_then (ReturnOf (Some made) nowhere) no_statements))

  -- that method, for a creation of the class c with the constructor m
  abbrev pub make_member : ℕ → ℕ → ℕ → PlainMethod → MemberTree
  make_member n c m k = MethodTree (make_head n c m k) (Some (make_body n c m k)) nowhere

  -- the one for a class that has a constructor, as a list
  abbrev pub maker_member : ℕ → ℕ → ℕ → List MemberTree
  maker_member n c m = option_map_or (λ k. make_member n c m k ∷ []) (slice_get P.methods m) []

  -- that of a site, where objects of a class with a constructor are created
  abbrev pub site_member : ℕ → Site → List MemberTree
  site_member s z = when (z.ty.dim == 0) (option_map_or (maker_member z.number z.ty.class.0) (maker_of P z.ty.class.0) [])

  -- the methods that make objects, by site
  abbrev pub make_members : List MemberTree
  make_members = each site_member 0 (sites_of P)

  -- the fields, then the methods, each in the order of the program
  abbrev pub holder_members : ℕ → List MemberTree
  holder_members c = each (static_field_member c) 0 P.fields ++ each (static_method_member c) 0 P.methods

-- a head as a member without a body
abbrev pub bodyless : HeadTree → MemberTree
bodyless h = MethodTree h None nowhere

-- whether a column is the first at a node that declares the slot
abbrev pub is_first_there : Facts → Hierarchy → ℕ → ℕ → ℕ → Bool
is_first_there F H n c x = not (any_below c (λ d. is_declaration (column_kind F d) && (is_slot (column_slot F d) x && stands_at H n d)))

module _ (P : Plain) (R : Renaming) (F : Facts) (H : Hierarchy) where
  -- a declaration is written as a head, once a slot
  abbrev pub heads_of_slot : List Modifier → ℕ → ℕ → Option ℕ → List HeadTree
  heads_of_slot mods n c None = []
  heads_of_slot mods n c (Some x) = when (is_headed F H n x && is_first_there F H n c x) (slot_head P R H mods x)

  -- the head of a column that is a declaration, where one is written for it
  abbrev pub column_heads : List Modifier → ℕ → ℕ → ColumnInfo → List HeadTree
  column_heads mods n c k = when (is_declaration k.kind) (heads_of_slot mods n c k.slot)

  -- the field or the public method that a column is
  abbrev pub own_member : Option ColumnItem → List MemberTree
  own_member (Some (column.Fld f)) = option_map_or (λ k. field_member P R H f k ∷ []) (slice_get P.fields f) []
  own_member (Some (column.Def m)) = option_map_or (λ k. body_member P R H m k ∷ []) (slice_get P.methods m) []
  own_member (Some (column.Dcl m)) = []
  own_member (Some (column.Is k)) = []
  own_member None = []

  -- what a column gives in a class
  abbrev pub column_members : List ColumnItem → ℕ → ℕ → ColumnInfo → List MemberTree
  column_members items n c k = map bodyless (column_heads (modifier Public ∷ modifier Abstract ∷ []) n c k) ++ own_member (slice_get items c)

  -- an offered slot without an offered body is filled in where objects are created
  abbrev pub filler : ℕ → ℕ → PlainSlot → List MemberTree
  filler n x s = when (is_filled F H n x) (map (λ h. MethodTree h (Some (filling s.result)) nowhere) (first_head P R H (modifier Public ∷ []) s))

  -- that of a slot by its number
  abbrev pub slot_filler : ℕ → ℕ → List MemberTree
  slot_filler n x = option_map_or (filler n x) (slice_get P.slots x) []

  -- the members of a class by column, then the fillers by slot; and the heads of an interface by column. The items say what the columns are
  abbrev pub class_members : List ColumnItem → ℕ → List MemberTree
  class_members items n = each (λ c k. when (stands_at H n c) (column_members items n c k)) 0 F.columns.items ++ flat_map (slot_filler n) (filled_slots P)

  -- the heads of an interface, by the columns that stand at its node
  abbrev pub interface_heads : ℕ → List HeadTree
  interface_heads n = each (λ c k. when (stands_at H n c) (column_heads [] n c k)) 0 F.columns.items
