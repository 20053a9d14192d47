-- Believed. Derivations by rules, and the least closed set.
use Rattle.std.specs.Prelude.{List, [], ◌∷◌, Contains}
use Rattle.std.specs.List.{AllByRecursion}

-- `R premises a` says that a rule concludes `a` from the premises.
-- A derivation is a list, the latest first, in which each follows by a rule from ones before it.
abbrev pub IsDerivation : {A : Type 0} → (List A → A → Type 0) → List A → Type 0
IsDerivation R [] = Unit {0}
IsDerivation {A} R (a ∷ before) =
    ((premises : List A) × R premises a × AllByRecursion (Contains before) premises) × IsDerivation R before

-- some derivation ends in it
pub record IsDerivable {A : Type 0} (R : List A → A → Type 0) (a : A) : Type 0 where
  pub before : List A
  pub derivation : IsDerivation R (a ∷ before)
