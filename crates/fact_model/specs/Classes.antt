-- Believed. Subtyping of classes, and the body that an object of a class runs for a slot.
use Rattle.std.specs.Prelude.{◌≡◌, ℕ, suc, zero, ◌==◌, ◌&&◌, ◌||◌, Bool, true, false, List, [], ◌++◌, length, Contains, Option, Some, None, slice_get, position, option_and_then}
use Rattle.std.specs.Option.{option_map_or, option_to_list}
use Rattle.std.specs.List.{list_any}
use Rattle.kaba_bits.specs.Sets.{or_else}
use Rattle.kaba_base.specs.declared.ClassId.{ClassId}
use Rattle.fact_model.specs.declared.facts.Facts.{Facts}
use Rattle.fact_model.specs.declared.facts.ColumnInfo.{ColumnInfo}
use Rattle.fact_model.specs.declared.facts.ColKind.{ColKind}
use Rattle.fact_model.specs.declared.facts.ColKind.TheVariants.{Fld, Dcl, Def, Is}

-- the superclass of a class
abbrev pub parent_of : Facts → ℕ → Option ClassId
parent_of F a = option_and_then (λ k. k.parent) (slice_get F.classes.items a)

-- the interfaces that a class or interface names
abbrev pub faces_of : Facts → ℕ → List ClassId
faces_of F a = option_map_or (λ k. k.faces.items) (slice_get F.classes.items a) []

-- what stands directly above a class or interface
abbrev pub supers_of : Facts → ℕ → List ClassId
supers_of F a = option_to_list (parent_of F a) ++ faces_of F a

-- a is b, or a class or interface directly above a is at or below b: the reflexive and transitive closure of extends and implements
pub data IsBelow (F : Facts) : ℕ → ℕ → Type 0 where
  same : {a : ℕ} → IsBelow F a a
  through : {a b : ℕ} {c : ClassId} → Contains (supers_of F a) c → IsBelow F c.0 b → IsBelow F a b

-- something directly above a is at or below b
pub record IsStrictSubclass (F : Facts) (a b : ℕ) : Type 0 where
  pub by : ClassId
  pub direct : Contains (supers_of F a) by
  pub rest : IsBelow F by.0 b

-- no class or interface is its own ancestor
abbrev pub IsAcyclic : Facts → Type 0
IsAcyclic F = (a : ℕ) → IsStrictSubclass F a a → ⊥

-- whether b is reached from a in at most n steps upwards
abbrev pub reaches : Facts → ℕ → ℕ → ℕ → Bool
reaches F zero a b = a == b
reaches F (suc n) a b = (a == b) || list_any (λ c. reaches F n c.0 b) (supers_of F a)

-- the same as a test: no way upwards is longer than the list of classes
abbrev pub below : Facts → ℕ → ℕ → Bool
below F a b = reaches F (length F.classes.items) a b

-- whether the number is that of an interface
abbrev pub is_interface : Facts → ℕ → Bool
is_interface F a = option_map_or (λ k. k.is_interface) (slice_get F.classes.items a) false

-- whether a column of this kind stands for a body of an instance method
abbrev pub is_def : ColKind → Bool
is_def Def = true
is_def Fld = false
is_def Dcl = false
is_def Is = false

-- whether a column has a slot, and it is x
abbrev pub is_slot : Option ℕ → ℕ → Bool
is_slot None x = false
is_slot (Some y) x = y == x

-- whether a column is a body of the slot x in the class a
abbrev pub is_body : ℕ → ℕ → ColumnInfo → Bool
is_body a x k = is_def k.kind && ((k.class.0 == a) && is_slot k.slot x)

-- the body of a slot that a class itself has
abbrev pub own_body : Facts → ℕ → ℕ → Option ℕ
own_body F a x = position (λ k. is_body a x k) F.columns.items

-- d is the body that an object of class a runs for the slot x: its own, or where it has none that of its superclass
pub data IsBodyFound (F : Facts) : ℕ → ℕ → ℕ → Type 0 where
  own : {a x d : ℕ} → own_body F a x ≡ Some d → IsBodyFound F a x d
  inherited : {a x d : ℕ} {p : ClassId} → own_body F a x ≡ None → parent_of F a ≡ Some p → IsBodyFound F p.0 x d → IsBodyFound F a x d

-- the nearest body of the slot within n steps along the superclasses
abbrev pub finds_within : Facts → ℕ → ℕ → ℕ → Option ℕ
finds_within F zero a x = own_body F a x
finds_within F (suc n) a x = or_else (own_body F a x) (option_and_then (λ p. finds_within F n p.0 x) (parent_of F a))

-- the same as a look-up: no way upwards is longer than the list of classes
abbrev pub finds : Facts → ℕ → ℕ → Option ℕ
finds F a x = finds_within F (length F.classes.items) a x
