-- Believed. The static type of each expression, and which types fit where.
use Rattle.std.specs.Prelude.{ℕ, zero, suc, ◌==◌, ◌&&◌, ◌||◌, Bool, true, false, not, if◌then◌else◌, List, [], ◌∷◌, ◌++◌, map, Option, Some, None, slice_get, option_and_then, codes}
use Rattle.std.specs.Option.{option_map}
use Rattle.std.specs.Str.{bytes_eq}
use Rattle.java_core.specs.declared.Ty.{Ty}
use Rattle.java_core.specs.declared.TyBase.{TyBase}
use Rattle.java_core.specs.declared.TyBase.TheVariants.{Int, Boolean, Char, Str, Class}
use Rattle.java_core.specs.declared.UnOp.{UnOp}
use Rattle.java_core.specs.declared.UnOp.TheVariants as un
use Rattle.java_core.specs.declared.BinOp.{BinOp}
use Rattle.java_core.specs.declared.BinOp.TheVariants as bin
use Rattle.java_core.specs.declared.Op.{Op}
use Rattle.java_core.specs.declared.Op.TheVariants as op
use Rattle.java_core.specs.Trees.{Ex, number, character, text, truth, null, this, local, static_field, own_field, field, index, call, static_call, super_call, create, create_array, cast, instance_of, unary, binary, Target, to_local, to_static, to_own, to_field, to_element, no_target}
use Rattle.java_core.specs.Plain.{Plain, PlainLocal, PlainMethod}
use Rattle.java_core.specs.Classes.{below, member_field, slot_of, super_method}

-- what an expression gives: a value of a type, null, or nothing (a call of a void method, or what no rule allows)
pub data Static : Type 0 where
  a_value : Ty → Static
  null_value : Static
  no_value : Static

-- what a body sees: its number among the methods, its class, the types of its parameters and locals, and its result
pub record Env : Type 0 where
  pub body : ℕ
  pub self : ℕ
  pub locals : List Ty
  pub result : Option Ty

-- the types of parameters or locals, in their order
abbrev pub types_of : List PlainLocal → List Ty
types_of ls = map (λ l. l.ty) ls

-- what the body of a method sees
abbrev pub env_of : ℕ → PlainMethod → Env
env_of m k = record { body = m; self = k.owner; locals = types_of (k.params ++ k.locals); result = k.result }

-- the type of a base, without brackets
abbrev pub plain_type : TyBase → Ty
plain_type b = record { base = b; dim = 0 }

-- the type of the objects of a class
abbrev pub class_type : ℕ → Ty
class_type c = plain_type (Class (record { 0 = c }))

-- a value of the type, where there is one, else nothing
abbrev pub or_nothing : Option Ty → Static
or_nothing None = no_value
or_nothing (Some t) = a_value t

-- the class of an object of the type; a type of no object has none
abbrev pub class_in : TyBase → ℕ → Option ℕ
class_in (Class c) zero = Some c.0
class_in (Class c) (suc d) = None
class_in Int d = None
class_in Boolean d = None
class_in Char d = None
class_in Str d = None

-- the class of an object that an expression gives, where it gives one
abbrev pub class_of : Static → Option ℕ
class_of (a_value t) = class_in t.base t.dim
class_of null_value = None
class_of no_value = None

-- the type of an array's elements
abbrev pub element_in : TyBase → ℕ → Option Ty
element_in b zero = None
element_in b (suc d) = Some (record { base = b; dim = d })

-- the type of the elements of an array that an expression gives, where it gives one
abbrev pub element_of : Static → Option Ty
element_of (a_value t) = element_in t.base t.dim
element_of null_value = None
element_of no_value = None

-- whether two bases of types are the same
abbrev pub is_base : TyBase → TyBase → Bool
is_base Int Int = true
is_base Boolean Boolean = true
is_base Char Char = true
is_base Str Str = true
is_base (Class c) (Class d) = c.0 == d.0
is_base _ _ = false

-- whether it is a value of this type, without brackets
abbrev pub is_only : TyBase → Static → Bool
is_only b (a_value t) = is_base t.base b && (t.dim == 0)
is_only b null_value = false
is_only b no_value = false

-- int or char
abbrev pub is_numeric : Static → Bool
is_numeric s = is_only Int s || is_only Char s

-- whether it is a boolean
abbrev pub is_boolean : Static → Bool
is_boolean s = is_only Boolean s

-- whether it is a String
abbrev pub is_string : Static → Bool
is_string s = is_only Str s

-- what can be printed, and joined to a string
abbrev pub is_printable : Static → Bool
is_printable s = is_numeric s || (is_boolean s || is_string s)

-- whether the base of a type is a class
abbrev pub is_class : TyBase → Bool
is_class (Class c) = true
is_class Int = false
is_class Boolean = false
is_class Char = false
is_class Str = false

-- classes and arrays
abbrev pub is_object : Ty → Bool
is_object t = not (t.dim == 0) || is_class t.base

-- what null fits: classes, arrays and String
abbrev pub is_reference : Ty → Bool
is_reference t = is_object t || is_base t.base Str

-- whether one base is a subtype of another: a class at or below the other, else the same base
abbrev pub is_sub_base : Plain → TyBase → TyBase → Bool
is_sub_base P (Class c) (Class d) = below P c.0 d.0
is_sub_base P Int b = is_base Int b
is_sub_base P Boolean b = is_base Boolean b
is_sub_base P Char b = is_base Char b
is_sub_base P Str b = is_base Str b
is_sub_base P (Class c) _ = false

-- subtypes: arrays of one dimension as their bases; every other type is a subtype of itself alone (Java Language Specification, 4.10.3, the subset's part)
abbrev pub is_subtype : Plain → Ty → Ty → Bool
is_subtype P s t = (s.dim == t.dim) && is_sub_base P s.base t.base

-- what can be assigned to a variable of the type: a subtype, char for int, or null for a reference (Java Language Specification, 5.2, the subset's part)
abbrev pub fits : Plain → Static → Ty → Bool
fits P (a_value s) t = is_subtype P s t || (is_only Char (a_value s) && is_only Int (a_value t))
fits P null_value t = is_reference t
fits P no_value t = false

-- what can be assigned to a variable of which the static type is known: what fits its type
abbrev pub fits_in : Plain → Static → Static → Bool
fits_in P s (a_value t) = fits P s t
fits_in P s null_value = false
fits_in P s no_value = false

-- what `==` and `!=` compare: numbers, booleans, null with a reference, and two classes or arrays of which one is a subtype of the other (Java
-- Language Specification, 15.21, the subset's part)
abbrev pub are_comparable : Plain → Static → Static → Bool
are_comparable P (a_value s) (a_value t) =
    (is_numeric (a_value s) && is_numeric (a_value t))
    || ((is_boolean (a_value s) && is_boolean (a_value t)) || ((is_object s && is_object t) && (is_subtype P s t || is_subtype P t s)))
are_comparable P (a_value s) null_value = is_reference s
are_comparable P null_value (a_value t) = is_reference t
are_comparable P null_value null_value = true
are_comparable P _ _ = false

-- the three methods of a String: what they take, and what they give
pub data StringMethod : Type 0 where
  LengthOf : StringMethod
  CharAt : StringMethod
  Equals : StringMethod

-- the method of String that has this name, where one has
abbrev pub string_method : List ℕ → Option StringMethod
string_method x =
    if bytes_eq x (codes "length") then Some LengthOf else if bytes_eq x (codes "charAt") then Some CharAt else if bytes_eq x (codes "equals") then
    Some Equals else None

-- the types of what a method of String takes
abbrev pub string_params : StringMethod → List Ty
string_params LengthOf = []
string_params CharAt = plain_type Int ∷ []
string_params Equals = plain_type Str ∷ []

-- the type of what a method of String gives
abbrev pub string_result : StringMethod → Ty
string_result LengthOf = plain_type Int
string_result CharAt = plain_type Char
string_result Equals = plain_type Boolean

-- what a method takes and gives; no result is void
pub record Signature : Type 0 where
  pub params : List Ty
  pub result : Option Ty

-- what the methods of a slot take and give
abbrev pub signature_of_slot : Plain → ℕ → Option Signature
signature_of_slot P s = option_map (λ k. record { params = k.params; result = k.result }) (slice_get P.slots s)

-- what a method takes and gives
abbrev pub signature_of_method : Plain → ℕ → Option Signature
signature_of_method P m = option_map (λ k. record { params = types_of k.params; result = k.result }) (slice_get P.methods m)

-- what a method of String takes and gives
abbrev pub signature_of_string : StringMethod → Signature
signature_of_string m = record { params = string_params m; result = Some (string_result m) }

-- what a call of a name on an expression calls: a method of String, or the slot that the class offers
abbrev pub object_signature : Plain → Option ℕ → List ℕ → Option Signature
object_signature P None x = None
object_signature P (Some c) x = option_and_then (signature_of_slot P) (slot_of P c x)

-- what a call of a name on an expression of this static type takes and gives, where it calls something
unfoldable pub call_signature : Plain → Static → List ℕ → Option Signature
call_signature P s x = if is_string s then option_map signature_of_string (string_method x) else object_signature P (class_of s) x

-- what a call of a name on `super` in a class takes and gives, where it calls something
unfoldable pub super_signature : Plain → ℕ → List ℕ → Option Signature
super_signature P c x = option_and_then (signature_of_method P) (super_method P c x)

-- the static type of a call: what its signature gives, and nothing where it calls nothing
abbrev pub result_of : Option Signature → Static
result_of None = no_value
result_of (Some g) = or_nothing g.result

-- the type of a field
abbrev pub field_type : Plain → ℕ → Option Ty
field_type P f = option_map (λ k. k.ty) (slice_get P.fields f)

-- the field that an expression's object has under a name
unfoldable pub field_in : Plain → Static → List ℕ → Option ℕ
field_in P s x = option_and_then (λ c. member_field P c x) (class_of s)

-- and its type
abbrev pub value_type : Plain → Static → List ℕ → Option Ty
value_type P s x = option_and_then (field_type P) (field_in P s x)

-- whether a name is `length`
abbrev pub is_length : List ℕ → Bool
is_length x = bytes_eq x (codes "length")

-- what a field access gives: the length of an array, or a field's value
abbrev pub length_or : Option Ty → Option Ty → List ℕ → Option Ty
length_or (Some u) t x = if is_length x then Some (plain_type Int) else None
length_or None t x = t

-- the type of a field access on an expression of this static type
unfoldable pub access_type : Plain → Static → List ℕ → Option Ty
access_type P s x = length_or (element_of s) (value_type P s x) x

-- the type of what a prefix operator gives: boolean for `!`, else int
abbrev pub unary_type : UnOp → Ty
unary_type un.Plus = plain_type Int
unary_type un.Minus = plain_type Int
unary_type un.Flip = plain_type Int
unary_type un.Not = plain_type Boolean

-- the type of what an operator on ints gives: a String where it joins, else an int
abbrev pub sum_type : Bool → Ty
sum_type true = plain_type Str
sum_type false = plain_type Int

-- whether it is `+`
abbrev pub is_plus : Op → Bool
is_plus op.Plus = true
is_plus _ = false

-- the type of what a binary operator gives on sides of these static types
abbrev pub binary_type : BinOp → Static → Static → Ty
binary_type (bin.Int o) s t = sum_type (is_plus o && (is_string s || is_string t))
binary_type bin.Same s t = plain_type Boolean
binary_type bin.Differs s t = plain_type Boolean
binary_type bin.Less s t = plain_type Boolean
binary_type bin.Greater s t = plain_type Boolean
binary_type bin.AtMost s t = plain_type Boolean
binary_type bin.AtLeast s t = plain_type Boolean
binary_type bin.Both s t = plain_type Boolean
binary_type bin.Either s t = plain_type Boolean

-- the static type of an expression (Java Language Specification, chapter 15): what no rule allows gives nothing
module _ (P : Plain) (g : Env) where
  -- the static type of an expression in a body
  abbrev pub static : Ex → Static
  static (number t n) = a_value (plain_type Int)
  static (character t c) = a_value (plain_type Char)
  static (text t u) = a_value (plain_type Str)
  static (truth t b) = a_value (plain_type Boolean)
  static (null t) = null_value
  static (this t) = a_value (class_type g.self)
  static (local t i) = or_nothing (slice_get g.locals i)
  static (static_field t f) = or_nothing (field_type P f)
  static (own_field t f) = or_nothing (field_type P f)
  static (field t e x) = or_nothing (access_type P (static e) x)
  static (index t e i) = or_nothing (element_of (static e))
  static (call t e x es) = result_of (call_signature P (static e) x)
  static (static_call t m es) = result_of (signature_of_method P m)
  static (super_call t x es) = result_of (super_signature P g.self x)
  static (create t n c es) = a_value (class_type c)
  static (create_array t n u e) = a_value u
  static (cast t n u e) = a_value u
  static (instance_of t n e c) = a_value (plain_type Boolean)
  static (unary t o e) = a_value (unary_type o)
  static (binary t o e d) = a_value (binary_type o (static e) (static d))

  -- the type of what an assignment changes
  abbrev pub target_type : Target → Static
  target_type (to_local t i) = or_nothing (slice_get g.locals i)
  target_type (to_static t f) = or_nothing (field_type P f)
  target_type (to_own t f) = or_nothing (field_type P f)
  target_type (to_field t e x) = or_nothing (value_type P (static e) x)
  target_type (to_element t e i) = or_nothing (element_of (static e))
  target_type no_target = no_value
