-- Believed. Subtyping, and which field, method and body a class has under a name or for a slot.
use Rattle.std.specs.Prelude.{ℕ, zero, suc, ◌==◌, ◌&&◌, ◌||◌, Bool, true, false, not, List, [], ◌∷◌, ◌++◌, length, Contains, Option, Some, None, slice_get, position, option_and_then}
use Rattle.std.specs.Option.{option_map_or, option_to_list, is_some}
use Rattle.std.specs.List.{list_any, flat_map}
use Rattle.std.specs.Str.{bytes_eq}
use Rattle.kaba_base.specs.declared.ClassId.{ClassId}
use Rattle.java_core.specs.Plain.{Plain, PlainField, PlainMethod}

-- the class of a number, as the code holds it
abbrev pub class_id : ℕ → ClassId
class_id k = record { 0 = k }

-- the superclass of a class, and the interfaces that a class or interface names
abbrev pub parent_of : Plain → ℕ → Option ClassId
parent_of P a = option_and_then (λ k. k.parent) (slice_get P.classes a)

-- the interfaces that a class or interface names itself; none for a number of no class
abbrev pub faces_of : Plain → ℕ → List ClassId
faces_of P a = option_map_or (λ k. k.faces) (slice_get P.classes a) []

-- the direct supertypes of a class or interface: its superclass, then the interfaces that it names
abbrev pub supers_of : Plain → ℕ → List ClassId
supers_of P a = option_to_list (parent_of P a) ++ faces_of P a

-- a is b, or something directly above a is at or below b: the reflexive and transitive closure of extends and implements (Java Language Specification, 4.10.2)
pub data IsSubclass (P : Plain) : ℕ → ℕ → Type 0 where
  same_class : {a : ℕ} → IsSubclass P a a
  through : {a b : ℕ} {c : ClassId} → Contains (supers_of P a) c → IsSubclass P c.0 b → IsSubclass P a b

-- something directly above a is at or below b
pub record IsProperSubclass (P : Plain) (a b : ℕ) : Type 0 where
  pub by : ClassId
  pub direct : Contains (supers_of P a) by
  pub rest : IsSubclass P by.0 b

-- whether b is reached from a in at most n steps upwards
abbrev pub reaches : Plain → ℕ → ℕ → ℕ → Bool
reaches P zero a b = a == b
reaches P (suc n) a b = (a == b) || list_any (λ c. reaches P n c.0 b) (supers_of P a)

-- the same as a test: in a program without a class that is its own ancestor no way upwards is longer than the list of classes
unfoldable pub below : Plain → ℕ → ℕ → Bool
below P a b = reaches P (length P.classes) a b

-- what is found first along the superclasses, the class itself first, within n steps
abbrev pub first_or : Option ℕ → Option ℕ → Option ℕ
first_or (Some x) other = Some x
first_or None other = other

-- what f gives at the class, else at the nearest of its superclasses where f gives something, at most n steps up
abbrev pub nearest : Plain → (ℕ → Option ℕ) → ℕ → ℕ → Option ℕ
nearest P f zero c = f c
nearest P f (suc n) c = first_or (f c) (option_and_then (λ p. nearest P f n p.0) (parent_of P c))

-- no way upwards is longer than the list of classes
abbrev pub nearest_of : Plain → (ℕ → Option ℕ) → ℕ → Option ℕ
nearest_of P f c = nearest P f (length P.classes) c

-- whether a field is declared in this class under this name
abbrev pub is_field_of : ℕ → List ℕ → PlainField → Bool
is_field_of c x f = (f.owner == c) && bytes_eq f.name x

-- the field of a name in a class itself
abbrev pub own_field_of : Plain → ℕ → List ℕ → Option ℕ
own_field_of P c x = position (λ f. is_field_of c x f) P.fields

-- the nearest field of a name upwards, an instance or a static one (Java Language Specification, 8.3, 15.11)
unfoldable pub field_of : Plain → ℕ → List ℕ → Option ℕ
field_of P c x = nearest_of P (λ k. own_field_of P k x) c

-- whether a field is static; a number of no field is that of none
abbrev pub is_static_field : Plain → ℕ → Bool
is_static_field P f = option_map_or (λ k. k.is_static) (slice_get P.fields f) false

-- the field, unless it is static
abbrev pub if_instance : ℕ → Bool → Option ℕ
if_instance f true = None
if_instance f false = Some f

-- the field that was found, where it is an instance field
abbrev pub when_instance : Plain → Option ℕ → Option ℕ
when_instance P None = None
when_instance P (Some f) = if_instance f (is_static_field P f)

-- the field that an object of the type has under a name: the nearest upwards, where that one is an instance field
unfoldable pub member_field : Plain → ℕ → List ℕ → Option ℕ
member_field P c x = when_instance P (field_of P c x)

-- whether a method is an instance method that this class declares under this name
abbrev pub is_method_of : ℕ → List ℕ → PlainMethod → Bool
is_method_of c x m = (m.owner == c) && (not m.is_static && bytes_eq m.name x)

-- the instance method of a name that a class or interface itself declares
abbrev pub own_method : Plain → ℕ → List ℕ → Option ℕ
own_method P c x = position (λ m. is_method_of c x m) P.methods

-- the interfaces above one, each followed by its own, in the order written, within n steps
abbrev pub faces_above : Plain → ℕ → ℕ → List ℕ
faces_above P zero c = []
faces_above P (suc n) c = flat_map (λ k. k.0 ∷ faces_above P n k.0) (faces_of P c)

-- a class and its superclasses, the nearest first, within n steps
abbrev pub chain : Plain → ℕ → ℕ → List ℕ
chain P zero c = c ∷ []
chain P (suc n) c = c ∷ option_map_or (λ p. chain P n p.0) (parent_of P c) []

-- the order in which the declaration of a method is looked for: the type and its superclasses, the nearest first; then the interfaces that these
-- name, from the type upwards, each followed by its own
unfoldable pub search_order : Plain → ℕ → List ℕ
search_order P c = chain P (length P.classes) c ++ flat_map (λ k. faces_above P (length P.classes) k) (chain P (length P.classes) c)

-- what f gives for the first of the classes for which it gives something
abbrev pub first_found : (ℕ → Option ℕ) → List ℕ → Option ℕ
first_found f [] = None
first_found f (c ∷ cs) = first_or (f c) (first_found f cs)

-- the declaration that a call of a name on a type finds statically
unfoldable pub declaration_of : Plain → ℕ → List ℕ → Option ℕ
declaration_of P c x = first_found (λ k. own_method P k x) (search_order P c)

-- the slot of a method; a static method has none
abbrev pub slot_of_method : Plain → ℕ → Option ℕ
slot_of_method P m = option_and_then (λ k. k.slot) (slice_get P.methods m)

-- the slot that a type offers under a name
abbrev pub slot_of : Plain → ℕ → List ℕ → Option ℕ
slot_of P c x = option_and_then (slot_of_method P) (declaration_of P c x)

-- whether the slot of a method is there and is this one
abbrev pub is_slot : Option ℕ → ℕ → Bool
is_slot None s = false
is_slot (Some r) s = r == s

-- whether a method is declared in this class for this slot
abbrev pub has_slot : ℕ → ℕ → PlainMethod → Bool
has_slot c s m = (m.owner == c) && is_slot m.slot s

-- the method of a slot that a class itself declares, and the body that it itself has
abbrev pub own_declaration : Plain → ℕ → ℕ → Option ℕ
own_declaration P c s = position (λ m. has_slot c s m) P.methods

-- the method with a body that a class declares itself for a slot
abbrev pub own_body : Plain → ℕ → ℕ → Option ℕ
own_body P c s = position (λ m. has_slot c s m && is_some m.body) P.methods

-- the nearest body of a slot upwards: the one that an object of the class runs (Java Language Specification, 15.12.4.4)
unfoldable pub lookup : Plain → ℕ → ℕ → Option ℕ
lookup P c s = nearest_of P (λ k. own_body P k s) c

-- the nearest declaration of a slot in a class and its superclasses
unfoldable pub nearest_declaration : Plain → ℕ → ℕ → Option ℕ
nearest_declaration P c s = nearest_of P (λ k. own_declaration P k s) c

-- the nearest declaration of a name strictly above a class: what `super.x()` in it finds
unfoldable pub super_method : Plain → ℕ → List ℕ → Option ℕ
super_method P c x = option_and_then (λ p. nearest_of P (λ k. own_method P k x) p.0) (parent_of P c)

-- whether a method has a body
abbrev pub has_body : Plain → ℕ → Bool
has_body P m = option_map_or (λ k. is_some k.body) (slice_get P.methods m) false

-- whether a number is that of an interface
abbrev pub is_interface : Plain → ℕ → Bool
is_interface P c = option_map_or (λ k. k.is_interface) (slice_get P.classes c) false

-- whether objects of it can be made: it is a class, and not abstract
abbrev pub is_concrete : Plain → ℕ → Bool
is_concrete P c = option_map_or (λ k. not k.is_interface && not k.is_abstract) (slice_get P.classes c) false
