-- Mirror. What is found before a set in lectic order.
use Rattle.std.specs.Prelude.{◌≡◌, ℕ, zero, suc, ◌+◌, ◌≤◌, Bool, true, false, List, [], ◌∷◌, length, All, AllPairs, Contains, cond}
use Rattle.stem_base.specs.Base.{Sides, is_subset, in_both, IsPseudo}
use Rattle.stem_base.specs.Lectic.{Precedes, AreUpTo}

-- what a row leaves of the columns common to the others
abbrev pub narrowed : List Bool → List Bool → List Bool → List Bool
narrowed R P C = elim (is_subset P R) [ true ↦ in_both C R | false ↦ C ]

-- P -> P'' for exactly the pseudo-closed sets P before A, in lectic order
pub record AreBefore (w : ℕ) (cl : List Bool → List Bool) (A : List Bool) (base : List Sides) : Type 0 where
  pub each : All (λ r. IsPseudo w cl r.0 × (r.1 ≡ cl r.0) × Precedes r.0 A) base
  pub rising : AllPairs (λ r s. Precedes r.0 s.0) base
  pub complete : (P : List Bool) → IsPseudo w cl P → Precedes P A → Contains base (P, cl P)

-- the same with A itself
pub record AreNoted (w : ℕ) (cl : List Bool → List Bool) (A : List Bool) (base : List Sides) : Type 0 where
  pub upto : AreUpTo w cl A base
  pub rising : AllPairs (λ r s. Precedes r.0 s.0) base

-- different ones, in lectic order, and all of them where they are no more than a bound
pub record AreStemsFound (w : ℕ) (cl : List Bool → List Bool) (bound : ℕ) (base : List Sides) : Type 0 where
  pub each : All (λ r. IsPseudo w cl r.0 × (r.1 ≡ cl r.0)) base
  pub rising : AllPairs (λ r s. Precedes r.0 s.0) base
  pub complete : length base ≤ bound → (P : List Bool) → IsPseudo w cl P → Contains base (P, cl P)

-- a set as a number whose first bit counts most
abbrev pub power_of_two : ℕ → ℕ
power_of_two zero = 1
power_of_two (suc w) = power_of_two w + power_of_two w

abbrev pub lectic_rank : List Bool → ℕ
lectic_rank [] = 0
lectic_rank (b ∷ A) = cond b (power_of_two (length A)) 0 + lectic_rank A
