-- Which types are those of a row, and how typing keeps them.
use Rattle.std.proofs.Common.{◌≡◌, ℕ, zero, suc, List, Option, Some, None, refl, sym, ap, ◌∙◌, subst, arith, ⊎_elim}
use Rattle.std.specs.Prelude.{◌<◌, ◌==◌, ◌&&◌, if◌then◌else◌, Bool, true, false, slice_get}
use Rattle.std.specs.Option.{option_map, option_and_then, is_some}
use Rattle.std.proofs.lemmas.Bool.{false≢true, or_cases, and_parts}
use Rattle.std.proofs.lemmas.Option.{same_Some}
use Rattle.java_meaning.proofs.Moves.{then_some}
use Rattle.java_meaning.proofs.Calls.{mapped_some}
use Rattle.java_core.specs.declared.Ty.{Ty}
use Rattle.java_core.specs.declared.TyBase.{TyBase}
use Rattle.java_core.specs.declared.TyBase.TheVariants.{Int, Boolean, Char, Str, Class}
use Rattle.java_core.specs.Programs.{Plain, PlainSlot}
use Rattle.java_core.specs.Classes.{slot_of}
use Rattle.java_core.specs.Types.{Static, a_value, null_value, no_value, or_nothing, class_in, class_of, element_in, element_of, is_base, is_only, is_string, is_sub_base, is_subtype, fits, StringMethod, LengthOf, CharAt, Equals, string_method, string_result, Signature, signature_of_slot, signature_of_string, object_signature, call_signature}
use Rattle.flow_rules.specs.declared.items.ObjectType.{ObjectType}
use Rattle.flow_rules.specs.Operands.{object_in, object_of, object_if, object_static}

string_none : (m : StringMethod) → object_of (string_result m) ≡ None
string_none LengthOf = refl
string_none CharAt = refl
string_none Equals = refl

char_none : (b : TyBase) (d : ℕ) (t : ObjectType) → is_base b Char ≡ true → object_in b d ≡ Some t → ⊥
char_none (Class c) d t e o = false≢true e
char_none Int d t e o = cc
char_none Boolean d t e o = cc
char_none Char d t e o = cc
char_none Str d t e o = cc

module _ (P : Plain) where
  base_object : (b c : TyBase) (d n : ℕ) (t : ObjectType) → is_sub_base P b c ≡ true → object_in b d ≡ Some t → (r : ObjectType) × (object_in c n ≡ Some r)
  base_object (Class b) (Class c) d n t s o = (record { class = c; dim = n }, refl)
  base_object (Class b) Int d n t s o = absurd (false≢true s)
  base_object (Class b) Boolean d n t s o = absurd (false≢true s)
  base_object (Class b) Char d n t s o = absurd (false≢true s)
  base_object (Class b) Str d n t s o = absurd (false≢true s)
  base_object Int c d n t s o = absurd (cc)
  base_object Boolean c d n t s o = absurd (cc)
  base_object Char c d n t s o = absurd (cc)
  base_object Str c d n t s o = absurd (cc)

  pub fits_object : (s : Static) (u : Ty) (t : ObjectType) → fits P s u ≡ true → object_static s ≡ Some t → (r : ObjectType) × (object_of u ≡ Some r)
  fits_object (a_value a) u t e o = ⊎_elim
      (λ h. base_object a.base u.base a.dim u.dim t (and_parts (a.dim == u.dim) (is_sub_base P a.base u.base) h).1 o)
      (λ h. absurd (char_none a.base a.dim t (and_parts (is_base a.base Char) (a.dim == 0)
      (and_parts (is_only Char (a_value a)) (is_only Int (a_value u)) h).0).0 o))
      (or_cases (is_subtype P a u) (is_only Char (a_value a) && is_only Int (a_value u)) e)
  fits_object null_value u t e o = absurd (cc)
  fits_object no_value u t e o = absurd (cc)

element_object : (b : TyBase) (d : ℕ) (t : ObjectType) → object_in b d ≡ Some t → is_some (element_in b d) ≡ true → (r : ObjectType)
    × (object_static (or_nothing (element_in b d)) ≡ Some r)
element_object (Class c) (suc d) t o e = (record { class = c; dim = d }, refl)
element_object b zero t o e = absurd (false≢true e)
element_object Int (suc d) t o e = absurd (cc)
element_object Boolean (suc d) t o e = absurd (cc)
element_object Char (suc d) t o e = absurd (cc)
element_object Str (suc d) t o e = absurd (cc)

pub element_typed : (s : Static) (t : ObjectType) → object_static s ≡ Some t → is_some (element_of s) ≡ true → (r : ObjectType)
    × (object_static (or_nothing (element_of s)) ≡ Some r)
element_typed (a_value a) t o e = element_object a.base a.dim t o e
element_typed null_value t o e = absurd (cc)
element_typed no_value t o e = absurd (cc)

array_typed : (b : TyBase) (d : ℕ) (r : ObjectType) → object_static (or_nothing (element_in b d)) ≡ Some r → (t : ObjectType) × (object_in b d ≡ Some t)
array_typed b zero r o = absurd (cc)
array_typed (Class c) (suc d) r o = (record { class = c; dim = suc d }, refl)
array_typed Int (suc d) r o = absurd (cc)
array_typed Boolean (suc d) r o = absurd (cc)
array_typed Char (suc d) r o = absurd (cc)
array_typed Str (suc d) r o = absurd (cc)

-- an element of a type of a row is one of an array of such a type
pub of_element : (s : Static) (r : ObjectType) → object_static (or_nothing (element_of s)) ≡ Some r → (t : ObjectType) × (object_static s ≡ Some t)
of_element (a_value a) r o = array_typed a.base a.dim r o
of_element null_value r o = absurd (cc)
of_element no_value r o = absurd (cc)

class_element : (b : TyBase) (d c : ℕ) → class_in b d ≡ Some c → (element_in b d ≡ None) × ((is_base b Str && (d == 0)) ≡ false)
class_element (Class k) zero c e = (refl, refl)
class_element (Class k) (suc d) c e = absurd (cc)
class_element Int d c e = absurd (cc)
class_element Boolean d c e = absurd (cc)
class_element Char d c e = absurd (cc)
class_element Str d c e = absurd (cc)

-- what has a class is no array and no string
pub class_apart : (s : Static) (c : ℕ) → class_of s ≡ Some c → (element_of s ≡ None) × (is_string s ≡ false)
class_apart (a_value a) c e = class_element a.base a.dim c e
class_apart null_value c e = absurd (cc)
class_apart no_value c e = absurd (cc)

pub class_dim : (b : TyBase) (d c : ℕ) → 0 < d → class_in b d ≡ Some c → ⊥
class_dim b zero c h e = omega (arith, h)
class_dim (Class k) (suc d) c h e = cc
class_dim Int (suc d) c h e = cc
class_dim Boolean (suc d) c h e = cc
class_dim Char (suc d) c h e = cc
class_dim Str (suc d) c h e = cc

-- the slot that a call calls, with what it takes and gives
pub record SlotOf (P : Plain) (s : Static) (x : List ℕ) (sig : Signature) : Type 0 where
  pub number : ℕ
  pub found : option_and_then (λ c. slot_of P c x) (class_of s) ≡ Some number
  pub slot : PlainSlot
  pub stands : slice_get P.slots number ≡ Some slot
  pub params : sig.params ≡ slot.params
  pub result : sig.result ≡ slot.result

slot_signature : (P : Plain) (j : ℕ) (sig : Signature) → signature_of_slot P j ≡ Some sig → (slot : PlainSlot) × (slice_get P.slots j ≡ Some slot)
    × (sig.params ≡ slot.params) × (sig.result ≡ slot.result)
slot_signature P j sig e = let z = mapped_some (λ (k : PlainSlot). record { params = k.params; result = k.result }) (slice_get P.slots j) sig e in
    (z.0, z.1, sym (ap (λ w. w.params) z.2), sym (ap (λ w. w.result) z.2))

class_slot : (P : Plain) (s : Static) (c : Option ℕ) (x : List ℕ) (sig : Signature) → class_of s ≡ c → object_signature P c x ≡ Some sig → SlotOf P s x sig
class_slot P s None x sig h e = absurd (cc)
class_slot P s (Some c) x sig h e =
    let j = then_some (signature_of_slot P) (slot_of P c x) sig e in let z = slot_signature P j.0 sig j.2 in
    record { number = j.0; found = ap (λ w. option_and_then (λ c. slot_of P c x) w) h ∙ j.1; slot = z.0; stands = z.1; params = z.2; result = z.3 }

pub slot_called : (P : Plain) (s : Static) (x : List ℕ) (sig : Signature) → call_signature P s x ≡ Some sig → is_string s ≡ false → SlotOf P s x sig
unfolding call_signature
slot_called P s x sig e h = class_slot P s (class_of s) x sig refl
    (subst (λ b. (if b then option_map signature_of_string (string_method x) else object_signature P (class_of s) x) ≡ Some sig) h e)

string_result_none : (o : Option StringMethod) (sig : Signature) (t : ObjectType) → option_map signature_of_string o ≡ Some sig
    → object_if sig.result ≡ Some t → ⊥
string_result_none None sig t e h = cc
string_result_none (Some m) sig t e h = let z = sym (string_none m) ∙ ap (λ w. object_if w.result) (same_Some (signature_of_string m) sig e) ∙ h in cc

-- a call that gives an object calls a slot
pub object_called : (P : Plain) (s : Static) (x : List ℕ) (sig : Signature) (t : ObjectType) → call_signature P s x ≡ Some sig
    → object_if sig.result ≡ Some t → SlotOf P s x sig
unfolding call_signature
object_called P s x sig t e h = go (is_string s) refl
  where
    go : (b : Bool) → is_string s ≡ b → SlotOf P s x sig
    go true d = absurd (string_result_none (string_method x) sig t
        (subst (λ b. (if b then option_map signature_of_string (string_method x) else object_signature P (class_of s) x) ≡ Some sig) d e) h)
    go false d = slot_called P s x sig e d
