-- Mirror. The two laws of derivations.
use Rattle.std.specs.Prelude.{◌≡◌, Bool, true, List}
use Rattle.std.specs.List.{AllByRecursion}
use Rattle.kaba_derivations.specs.Derivation.{IsDerivable}

-- what the rules conclude from facts that have a property has it
abbrev pub IsClosed : {A : Type 0} → (List A → A → Type 0) → (A → Type 0) → Type 0
IsClosed {A} R P = (premises : List A) (a : A) → R premises a → AllByRecursion P premises → P a

-- the rules that a test accepts
abbrev pub accepted : {A : Type 0} → (List A → A → Bool) → List A → A → Type 0
accepted test premises a = test premises a ≡ true

-- the derivable facts are closed under the rules
abbrev pub DerivableIsClosed : Type 0 → Type 0
DerivableIsClosed A = (test : List A → A → Bool) → IsClosed (accepted test) (IsDerivable (accepted test))

-- and are in each set of facts that is closed under them
abbrev pub DerivableIsLeast : Type 0 → Type 0
DerivableIsLeast A =
    (test : List A → A → Bool) (set : A → Bool) → IsClosed (accepted test) (λ a. set a ≡ true) → (a : A) → IsDerivable (accepted test) a → set a ≡ true
