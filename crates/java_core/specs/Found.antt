-- Mirror. What the look-ups of members find, as relations.
use Rattle.std.specs.Prelude.{◌≡◌, ℕ, List, false, Option, Some, None, slice_get}
use Rattle.kaba_base.specs.declared.ClassId.{ClassId}
use Rattle.java_core.specs.Plain.{Plain, PlainMethod}
use Rattle.java_core.specs.Classes.{IsSubclass, parent_of, own_body}

-- d is what a class itself has, or where it has nothing that of its superclass
pub data IsNearest (P : Plain) (own : ℕ → Option ℕ) : ℕ → ℕ → Type 0 where
  at_class : {c d : ℕ} → own c ≡ Some d → IsNearest P own c d
  above_class : {c d : ℕ} {p : ClassId} → own c ≡ None → parent_of P c ≡ Some p → IsNearest P own p.0 d → IsNearest P own c d

-- d is the body that an object of the class runs for the slot (Java Language Specification, 15.12.4.4)
unfoldable pub Runs : Plain → ℕ → ℕ → ℕ → Type 0
Runs P c s d = IsNearest P (λ k. own_body P k s) c d

-- an instance method of the name stands at or above the type, and s is its slot
pub record IsOffered (P : Plain) (c : ℕ) (x : List ℕ) (s : ℕ) : Type 0 where
  pub number : ℕ
  pub method : PlainMethod
  pub stands : slice_get P.methods number ≡ Some method
  pub instance : method.is_static ≡ false
  pub name : method.name ≡ x
  pub above : IsSubclass P c method.owner
  pub slot : method.slot ≡ Some s
