-- Mirror. Lists in which items were written at places, and what is listed at each number.
use Rattle.std.specs.Prelude.{ℕ, suc, zero, Bool, true, false, List, [], ◌∷◌, ◌++◌, slice_set}

-- a list in which items were written at places, the last first
abbrev pub written : {X : Type 0} → List X → List (ℕ × X) → List X
written xs [] = xs
written xs (w ∷ ws) = slice_set (written xs ws) w.0 w.1

-- what is listed at each number below n, in rising order
abbrev pub each_below : {A : Type 0} → ℕ → (ℕ → List A) → List A
each_below zero f = []
each_below (suc n) f = each_below n f ++ f n

-- an item, where a test holds
abbrev pub only_if : {A : Type 0} → Bool → A → List A
only_if true x = x ∷ []
only_if false x = []
