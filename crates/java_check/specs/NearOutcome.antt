-- Mirror. What is kept on a walk upwards from a class: for each slot the first method that a class on the way declares.
use Rattle.std.specs.Prelude.{ℕ, zero, suc, List, Option, None, slice_index_or}
use Rattle.std.specs.Option.{option_and_then}
use Rattle.kaba_base.specs.declared.ClassId.{ClassId}
use Rattle.java_core.specs.declared.Method.{Method}
use Rattle.java_core.specs.Programs.{Plain}
use Rattle.java_core.specs.Owned.{first_among}
use Rattle.java_core.specs.Classes.{has_slot, own_declaration, nearest}

-- the number of the class or interface in which a method stands
abbrev pub method_owner : Method → ℕ
method_owner m = m.owner.0

-- the method that is kept for a slot
abbrev pub kept_at : List (Option ℕ) → ℕ → Option ℕ
kept_at near s = slice_index_or near s None

-- the first of these methods that a class declares for a slot
abbrev pub declared_among : Plain → ℕ → ℕ → List ℕ → Option ℕ
declared_among P c s ms = first_among (λ k. has_slot c s k) P.methods ms

-- what a class on the way declares for a slot
abbrev pub own_of : Plain → Option ClassId → ℕ → Option ℕ
own_of P at s = option_and_then (λ h. own_declaration P h.0 s) at

-- what is found for a slot in so many more classes on the way
abbrev pub found_in : Plain → ℕ → ℕ → Option ClassId → Option ℕ
found_in P s zero at = None
found_in P s (suc n) at = option_and_then (λ h. nearest P (λ k. own_declaration P k s) n h.0) at
