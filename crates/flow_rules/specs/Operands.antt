-- Believed. What the facts see of an expression: the row that types it, its flow point, and its static type where a row
-- can have it.
use Rattle.std.specs.Prelude.{ℕ, ◌==◌, if◌then◌else◌, nat_lt, Bool, true, false, List, [], ◌∷◌, length, Option, Some, None, option_and_then}
use Rattle.std.specs.Option.{option_map}
use Rattle.java_core.specs.declared.Ty.{Ty}
use Rattle.java_core.specs.declared.TyBase.{TyBase}
use Rattle.java_core.specs.declared.TyBase.TheVariants.{Int, Boolean, Char, Str, Class}
use Rattle.java_core.specs.Trees.{Tag, Ex, Exs, no_ex, ex_then, this, local, static_field, own_field, field, index, call, static_call, super_call, create, create_array, cast}
use Rattle.java_core.specs.Programs.{Plain, PlainMethod}
use Rattle.java_core.specs.Classes.{member_field, slot_of, slot_of_method, declaration_of, super_method}
use Rattle.java_core.specs.Types.{Static, a_value, null_value, no_value, env_of, static}
use Rattle.flow_rules.specs.declared.items.ObjectType.{ObjectType}
use Rattle.flow_rules.specs.declared.items.Operand.{Operand}
use Rattle.flow_rules.specs.declared.items.RowItem.{RowItem}
use Rattle.flow_rules.specs.declared.items.RowItem.TheVariants as row
use Rattle.flow_rules.specs.declared.items.PointItem.{PointItem}
use Rattle.flow_rules.specs.declared.items.PointItem.TheVariants as point

-- the types that a row can have: a class or interface, or an array of one
abbrev pub object_in : TyBase → ℕ → Option ObjectType
object_in (Class c) d = Some (record { class = c; dim = d })
object_in Int d = None
object_in Boolean d = None
object_in Char d = None
object_in Str d = None

-- a static type as one that a row can have; `int`, `String` and the like are none
abbrev pub object_of : Ty → Option ObjectType
object_of t = object_in t.base t.dim

-- a type, where there is one, as one that a row can have; the result of a `void` method is none
abbrev pub object_if : Option Ty → Option ObjectType
object_if None = None
object_if (Some t) = object_of t

-- the static type of an expression as one that a row can have; `null` and no value are none
abbrev pub object_static : Static → Option ObjectType
object_static (a_value t) = object_of t
object_static null_value = None
object_static no_value = None

-- the row of a parameter or a local: a parameter of an instance method is one of its slot
abbrev pub variable_in : Option ℕ → Bool → ℕ → ℕ → RowItem
variable_in (Some s) true m i = row.Param s i
variable_in (Some s) false m i = row.Local m i
variable_in None b m i = row.Local m i

-- the row of a parameter or local of a method, by its number among both
abbrev pub variable_row : ℕ → PlainMethod → ℕ → RowItem
variable_row m k i = variable_in k.slot (nat_lt i (length k.params)) m i

-- the row of what a method gives back: that of an instance method is its slot's
abbrev pub result_in : Option ℕ → ℕ → RowItem
result_in (Some s) m = row.Return s
result_in None m = row.Result m

-- the class of an object; an array has none
abbrev pub class_at : ObjectType → Option ℕ
class_at t = if t.dim == 0 then Some t.class.0 else None

-- the class of a type, where it is that of an object and no array
abbrev pub object_class : Option ObjectType → Option ℕ
object_class None = None
object_class (Some t) = class_at t

-- the instance field that a type has under a name, and for a call the slot and the declaration that is found statically
abbrev pub object_field : Plain → Option ObjectType → List ℕ → Option ℕ
object_field P s x = option_and_then (λ c. member_field P c x) (object_class s)

-- the slot of the method that a call of the name x on a type finds statically
abbrev pub call_slot : Plain → Option ObjectType → List ℕ → Option ℕ
call_slot P s x = option_and_then (λ c. slot_of P c x) (object_class s)

-- the declaration that is found statically for a call of the name x on a type
abbrev pub call_declaration : Plain → Option ObjectType → List ℕ → Option ℕ
call_declaration P s x = option_and_then (λ c. declaration_of P c x) (object_class s)

-- the slot of the method that a super call runs
abbrev pub super_slot : Plain → ℕ → List ℕ → Option ℕ
super_slot P c x = option_and_then (slot_of_method P) (super_method P c x)

-- an object of a class
abbrev pub class_object : ℕ → Option ObjectType
class_object c = Some (record { class = record { 0 = c }; dim = 0 })

-- `this` in the method m
abbrev pub this_operand : ℕ → PlainMethod → Operand
this_operand m k = record { point = Some (point.This m); row = Some (row.This m); ty = class_object k.owner; created = None }

-- an `instanceof` of the class c in the method m: its own row and point
abbrev pub test_operand : ℕ → Tag → ℕ → ℕ → Operand
test_operand m t n c = record { point = Some (point.Expr m t.label); row = Some (row.Test n); ty = class_object c; created = None }

-- in the body of a method, where each expression has a type that a row can have, or none
module _ (P : Plain) (type : Ex → Option ObjectType) (m : ℕ) (k : PlainMethod) where
  -- the row that types an expression: a variable's, for an access the field's, for a call the return's, for an element the array's, for a creation or
  -- a cast its own; a literal, `null`, an `instanceof` and an operator have none
  abbrev pub row_of : Ex → Option RowItem
  row_of (this t) = Some (row.This m)
  row_of (local t i) = Some (variable_row m k i)
  row_of (static_field t f) = Some (row.Field f)
  row_of (own_field t f) = Some (row.Field f)
  row_of (field t e x) = option_map row.Field (object_field P (type e) x)
  row_of (index t e i) = row_of e
  row_of (call t e x es) = option_map row.Return (call_slot P (type e) x)
  row_of (static_call t d es) = Some (row.Result d)
  row_of (super_call t x es) = option_map row.Return (super_slot P k.owner x)
  row_of (create t n c es) = Some (row.New n)
  row_of (create_array t n u e) = Some (row.New n)
  row_of (cast t n u e) = Some (row.Cast n)
  row_of _ = None

  -- the flow point that an expression would be; a literal, `null`, an `instanceof` and an operator are none
  abbrev pub point_of : Ex → Option PointItem
  point_of (this t) = Some (point.This m)
  point_of (local t i) = Some (point.Local m i)
  point_of (static_field t f) = Some (point.Static f)
  point_of (own_field t f) = Some (point.Expr m t.label)
  point_of (field t e x) = Some (point.Expr m t.label)
  point_of (index t e i) = Some (point.Expr m t.label)
  point_of (call t e x es) = Some (point.Expr m t.label)
  point_of (static_call t d es) = Some (point.Expr m t.label)
  point_of (super_call t x es) = Some (point.Expr m t.label)
  point_of (create t n c es) = Some (point.Expr m t.label)
  point_of (create_array t n u e) = Some (point.Expr m t.label)
  point_of (cast t n u e) = Some (point.Expr m t.label)
  point_of _ = None

  -- the number of a creation
  abbrev pub created_by : Ex → Option ℕ
  created_by (create t n c es) = Some n
  created_by (create_array t n u e) = Some n
  created_by _ = None

  -- all that the facts see of an expression in a method's body
  abbrev pub operand_of : Ex → Operand
  operand_of e = record { point = point_of e; row = row_of e; ty = type e; created = created_by e }

  -- the same of each argument
  abbrev pub operands_of : Exs → List Operand
  operands_of no_ex = []
  operands_of (ex_then e es) = operand_of e ∷ operands_of es

-- the static type of an expression of a method's body, where a row can have it
unfoldable pub type_in : Plain → ℕ → PlainMethod → Ex → Option ObjectType
type_in P m k e = object_static (static P (env_of m k) e)
