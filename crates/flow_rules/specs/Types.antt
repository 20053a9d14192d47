-- Mirror. The type of an expression, where a row can have it, step by step: the same as the static type, where a row
-- can have that.
use Rattle.std.specs.Prelude.{ℕ, ◌==◌, ◌-◌, ◌++◌, if◌then◌else◌, Option, Some, None, slice_get, option_and_then}
use Rattle.std.specs.Option.{option_map}
use Rattle.java_core.specs.Trees.{Ex, this, local, static_field, own_field, field, index, call, static_call, super_call, create, create_array, cast}
use Rattle.java_core.specs.Programs.{Plain, PlainMethod}
use Rattle.java_core.specs.Classes.{super_method}
use Rattle.flow_rules.specs.declared.items.ObjectType.{ObjectType}
use Rattle.flow_rules.specs.Operands.{object_of, object_if, object_field, call_slot}

-- the type of a field, where a row can have it
abbrev pub field_object : Plain → ℕ → Option ObjectType
field_object P f = object_if (option_map (λ k. k.ty) (slice_get P.fields f))

-- the type that the methods of a slot give back, where a row can have it
abbrev pub slot_object : Plain → ℕ → Option ObjectType
slot_object P s = object_if (option_and_then (λ k. k.result) (slice_get P.slots s))

-- the type that a method gives back, where a row can have it
abbrev pub method_object : Plain → ℕ → Option ObjectType
method_object P m = object_if (option_and_then (λ k. k.result) (slice_get P.methods m))

-- the type of a parameter or local, where a row can have it
abbrev pub variable_object : PlainMethod → ℕ → Option ObjectType
variable_object k i = object_if (option_map (λ v. v.ty) (slice_get (k.params ++ k.locals) i))

-- the type of the elements of an array; an object has none
abbrev pub element_in : ObjectType → Option ObjectType
element_in t = if t.dim == 0 then None else Some (record { class = t.class; dim = t.dim - 1 })

-- the type of the elements, where there is a type and it is an array's
abbrev pub element_object : Option ObjectType → Option ObjectType
element_object None = None
element_object (Some t) = element_in t

module _ (P : Plain) (k : PlainMethod) where
  -- a literal, `null`, an `instanceof` and an operator have none
  abbrev pub object_type : Ex → Option ObjectType
  object_type (this t) = Some (record { class = record { 0 = k.owner }; dim = 0 })
  object_type (local t i) = variable_object k i
  object_type (static_field t f) = field_object P f
  object_type (own_field t f) = field_object P f
  object_type (field t e x) = option_and_then (field_object P) (object_field P (object_type e) x)
  object_type (index t e i) = element_object (object_type e)
  object_type (call t e x es) = option_and_then (slot_object P) (call_slot P (object_type e) x)
  object_type (static_call t d es) = method_object P d
  object_type (super_call t x es) = option_and_then (method_object P) (super_method P k.owner x)
  object_type (create t n c es) = Some (record { class = record { 0 = c }; dim = 0 })
  object_type (create_array t n u e) = object_of u
  object_type (cast t n u e) = object_of u
  object_type _ = None
