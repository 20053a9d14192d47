-- The type found step by step is the static type, where a row can have that.
use Rattle.std.proofs.Common.{◌≡◌, ℕ, zero, suc, ◌-◌, Bool, true, false, List, [], ◌++◌, refl, sym, ap, ◌∙◌, arith}
use mathlib.Core.Path.{fun_ext}
use Rattle.std.specs.Prelude.{Option, Some, None, slice_get, option_and_then, cond, if◌then◌else◌, ◌==◌}
use Rattle.std.specs.Option.{option_map}
use Rattle.std.proofs.lemmas.Option.{slice_get-map}
use Rattle.std.proofs.Math.Dec.{eqb-suc-zero}
use Rattle.java_core.specs.declared.Ty.{Ty}
use Rattle.java_core.specs.declared.TyBase.{TyBase}
use Rattle.java_core.specs.declared.TyBase.TheVariants.{Int, Boolean, Char, Str, Class}
use Rattle.java_core.specs.declared.UnOp.TheVariants as un
use Rattle.java_core.specs.declared.BinOp.TheVariants as bin
use Rattle.java_core.specs.declared.UnOp.{UnOp}
use Rattle.java_core.specs.declared.BinOp.{BinOp}
use Rattle.java_core.specs.Trees.{Ex, Sts, local, static_field, own_field, field, index, call, static_call, super_call, unary, binary}
use Rattle.java_core.specs.Programs.{Plain, PlainMethod, PlainSlot}
use Rattle.java_core.specs.Classes.{super_method, member_field, slot_of}
use Rattle.java_core.specs.Types.{Static, a_value, null_value, no_value, env_of, class_in, class_of, element_in, element_of, or_nothing, field_type, field_in, access_type, length_or, is_length, is_string, string_method, StringMethod, LengthOf, CharAt, Equals, signature_of_string, signature_of_slot, signature_of_method, object_signature, call_signature, super_signature, result_of, plain_type, sum_type, types_of, binary_type, unary_type, static}
use Rattle.flow_rules.specs.Operands.{object_in, object_of, object_if, object_static, object_class, object_field, call_slot, type_in}
use Rattle.flow_rules.specs.Labels.{label_sts}
use Rattle.flow_rules.specs.Parts.{Part, parts_sts, parts_body, parts_of}
use Rattle.flow_rules.specs.Types.{field_object, slot_object, method_object, variable_object, element_object, object_type}

pub object_or : (o : Option Ty) → object_static (or_nothing o) ≡ object_if o
object_or None = refl
object_or (Some t) = refl

pub unary_none : (o : UnOp) → object_of (unary_type o) ≡ None
unary_none un.Plus = refl
unary_none un.Minus = refl
unary_none un.Flip = refl
unary_none un.Not = refl

sum_none : (b : Bool) → object_of (sum_type b) ≡ None
sum_none true = refl
sum_none false = refl

pub binary_none : (o : BinOp) (s t : Static) → object_of (binary_type o s t) ≡ None
binary_none (bin.Int o) s t = sum_none _
binary_none _ s t = refl

class_in_is : (b : TyBase) (d : ℕ) → object_class (object_in b d) ≡ class_in b d
class_in_is (Class c) zero = refl
class_in_is (Class c) (suc d) = ap (λ b. cond b (Some c.0) None) (eqb-suc-zero d)
class_in_is Int d = refl
class_in_is Boolean d = refl
class_in_is Char d = refl
class_in_is Str d = refl

pub class_is : (s : Static) → object_class (object_static s) ≡ class_of s
class_is (a_value t) = class_in_is t.base t.dim
class_is null_value = refl
class_is no_value = refl

less : (d : ℕ) → suc d - 1 ≡ d
less d = omega arith

element_in_is : (b : TyBase) (d : ℕ) → element_object (object_in b d) ≡ object_static (or_nothing (element_in b d))
element_in_is (Class c) zero = refl
element_in_is (Class c) (suc d) = ap (λ b. cond b None (Some (record { class = c; dim = suc d - 1 }))) (eqb-suc-zero d)
    ∙ ap (λ n. Some (record { class = c; dim = n })) (less d)
element_in_is Int zero = refl
element_in_is Boolean zero = refl
element_in_is Char zero = refl
element_in_is Str zero = refl
element_in_is Int (suc d) = refl
element_in_is Boolean (suc d) = refl
element_in_is Char (suc d) = refl
element_in_is Str (suc d) = refl

element_is : (s : Static) → element_object (object_static s) ≡ object_static (or_nothing (element_of s))
element_is (a_value t) = element_in_is t.base t.dim
element_is null_value = refl
element_is no_value = refl

module _ (P : Plain) where
  field_is : (o : Option ℕ) → option_and_then (field_object P) o ≡ object_static (or_nothing (option_and_then (field_type P) o))
  field_is None = refl
  field_is (Some f) = sym (object_or (field_type P f))

  pub object_field_is : (s : Static) (x : List ℕ) → object_field P (object_static s) x ≡ field_in P s x
  unfolding field_in
  object_field_is s x = ap (option_and_then (λ c. member_field P c x)) (class_is s)

  no_length : (b : Bool) → object_static (or_nothing (if b then Some (plain_type Int) else None)) ≡ None
  no_length true = refl
  no_length false = refl

  access_in : (b : TyBase) (d : ℕ) (x : List ℕ) → option_and_then (field_object P) (option_and_then (λ c. member_field P c x) (class_in b d))
      ≡ object_static (or_nothing (length_or (element_in b d) (option_and_then (field_type P) (option_and_then (λ c. member_field P c x) (class_in b d))) x))
  access_in (Class c) zero x = field_is (member_field P c.0 x)
  access_in (Class c) (suc d) x = sym (no_length (is_length x))
  access_in Int zero x = refl
  access_in Boolean zero x = refl
  access_in Char zero x = refl
  access_in Str zero x = refl
  access_in Int (suc d) x = sym (no_length (is_length x))
  access_in Boolean (suc d) x = sym (no_length (is_length x))
  access_in Char (suc d) x = sym (no_length (is_length x))
  access_in Str (suc d) x = sym (no_length (is_length x))

  access_is : (s : Static) (x : List ℕ) → option_and_then (field_object P) (object_field P (object_static s) x) ≡ object_static (or_nothing (access_type P s x))
  unfolding access_type field_in
  access_is (a_value t) x = ap (λ c. option_and_then (field_object P) (option_and_then (λ d. member_field P d x) c)) (class_in_is t.base t.dim)
      ∙ access_in t.base t.dim x
  access_is null_value x = refl
  access_is no_value x = refl

  slot_found : (o : Option PlainSlot) → object_if (option_and_then (λ k. k.result) o)
      ≡ object_static (result_of (option_map (λ k. record { params = k.params; result = k.result }) o))
  slot_found None = refl
  slot_found (Some k) = sym (object_or k.result)

  slot_is : (o : Option ℕ) → option_and_then (slot_object P) o ≡ object_static (result_of (option_and_then (signature_of_slot P) o))
  slot_is None = refl
  slot_is (Some s) = slot_found (slice_get P.slots s)

  method_found : (o : Option PlainMethod) → object_if (option_and_then (λ k. k.result) o)
      ≡ object_static (result_of (option_map (λ k. record { params = types_of k.params; result = k.result }) o))
  method_found None = refl
  method_found (Some k) = sym (object_or k.result)

  method_is : (m : ℕ) → method_object P m ≡ object_static (result_of (signature_of_method P m))
  method_is m = method_found (slice_get P.methods m)

  super_is : (o : Option ℕ) → option_and_then (method_object P) o ≡ object_static (result_of (option_and_then (signature_of_method P) o))
  super_is None = refl
  super_is (Some m) = method_is m

  string_is : (o : Option StringMethod) → object_static (result_of (option_map signature_of_string o)) ≡ None
  string_is None = refl
  string_is (Some LengthOf) = refl
  string_is (Some CharAt) = refl
  string_is (Some Equals) = refl

  no_object : (b : Bool) (x : List ℕ) → object_static (result_of (if b then option_map signature_of_string (string_method x) else None)) ≡ None
  no_object true x = string_is (string_method x)
  no_object false x = refl

  call_in : (b : TyBase) (d : ℕ) (x : List ℕ) → option_and_then (slot_object P) (option_and_then (λ c. slot_of P c x) (class_in b d))
      ≡ object_static (result_of (if is_string (a_value (record { base = b; dim = d })) then option_map signature_of_string (string_method x) else
      object_signature P (class_in b d) x))
  call_in (Class c) zero x = slot_is (slot_of P c.0 x)
  call_in (Class c) (suc d) x = refl
  call_in Int d x = refl
  call_in Boolean d x = refl
  call_in Char d x = refl
  call_in Str d x = sym (no_object (d == 0) x)

  call_is : (s : Static) (x : List ℕ) → option_and_then (slot_object P) (call_slot P (object_static s) x) ≡ object_static (result_of (call_signature P s x))
  unfolding call_signature
  call_is (a_value t) x = ap (λ c. option_and_then (slot_object P) (option_and_then (λ d. slot_of P d x) c)) (class_in_is t.base t.dim) ∙ call_in t.base t.dim x
  call_is null_value x = refl
  call_is no_value x = refl

  super_of : (c : ℕ) (x : List ℕ) → option_and_then (method_object P) (super_method P c x) ≡ object_static (result_of (super_signature P c x))
  unfolding super_signature
  super_of c x = super_is (super_method P c x)

  module _ (m : ℕ) (k : PlainMethod) where
    local_is : (i : ℕ) → variable_object k i ≡ object_static (or_nothing (slice_get (env_of m k).locals i))
    local_is i = ap object_if (sym (slice_get-map (λ v. v.ty) (k.params ++ k.locals) i)) ∙ sym (object_or _)

    pub type_is : (e : Ex) → object_type P k e ≡ object_static (static P (env_of m k) e)
    type_is (local t i) = local_is i
    type_is (static_field t f) = sym (object_or (field_type P f))
    type_is (own_field t f) = sym (object_or (field_type P f))
    type_is (field t e x) = ap (λ u. option_and_then (field_object P) (object_field P u x)) (type_is e) ∙ access_is (static P (env_of m k) e) x
    type_is (index t e i) = ap element_object (type_is e) ∙ element_is (static P (env_of m k) e)
    type_is (call t e x es) = ap (λ u. option_and_then (slot_object P) (call_slot P u x)) (type_is e) ∙ call_is (static P (env_of m k) e) x
    type_is (static_call t d es) = method_is d
    type_is (super_call t x es) = super_of k.owner x
    type_is (unary t o e) = sym (unary_none o)
    type_is (binary t o e d) = sym (binary_none o _ _)
    type_is e = refl

    -- the same of the two functions
    pub types_are : object_type P k ≡ type_in P m k
    unfolding type_in
    types_are = fun_ext type_is

    -- the parts of a body, and of what has none
    pub parts_of_some : (xs : Sts) (ps : List Part) → k.body ≡ Some xs → ps ≡ parts_sts P (object_type P k) m k (label_sts 0 xs) → ps ≡ parts_of P m k
    unfolding parts_of
    parts_of_some xs ps h e = e ∙ ap (λ T. parts_sts P T m k (label_sts 0 xs)) types_are ∙ sym (ap (parts_body P (type_in P m k) m k) h)

    pub parts_of_none : k.body ≡ None → [] ≡ parts_of P m k
    unfolding parts_of
    parts_of_none h = sym (ap (parts_body P (type_in P m k) m k) h)
