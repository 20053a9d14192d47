-- Mirror. What each class or interface declares itself, by numbers.
use Rattle.std.specs.Prelude.{◌≡◌, ℕ, ◌+◌, ◌==◌, Bool, false, cond, List, [], ◌∷◌, Option, Some, None, slice_get, if◌then◌else◌}
use Rattle.std.specs.Option.{option_map_or}
use Rattle.std.specs.declared.vec.Vec.{Vec}
use Rattle.std.specs.declared.alloc.Global.{Global}

-- the numbers of the members whose owner is c, the first of the owners numbered k
abbrev pub owned_from : ℕ → ℕ → List ℕ → List ℕ
owned_from k c [] = []
owned_from k c (x ∷ xs) = cond (x == c) (k ∷ owned_from (k + 1) c xs) (owned_from (k + 1) c xs)

-- the numbers that lists have under a number
abbrev pub listed : List (Vec ℕ Global) → ℕ → List ℕ
listed lists c = option_map_or (λ v. v.items) (slice_get lists c) []

-- the lists have for each class the members that it owns, in rising order
pub record AreOwned (owners : List ℕ) (lists : List (Vec ℕ Global)) : Type 0 where
  pub exact : (c : ℕ) → listed lists c ≡ owned_from 0 c owners

-- whether there is something and it passes the test
abbrev pub passes : {A : Type 0} → (A → Bool) → Option A → Bool
passes p None = false
passes p (Some x) = p x

-- the first of these numbers whose item passes a test
abbrev pub first_among : {A : Type 0} → (A → Bool) → List A → List ℕ → Option ℕ
first_among p xs [] = None
first_among p xs (k ∷ ks) = if passes p (slice_get xs k) then Some k else first_among p xs ks
