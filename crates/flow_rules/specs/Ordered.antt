-- Believed. Lists in the order of places, and each item once.
use Rattle.std.specs.Prelude.{ℕ, ◌+◌, nat_lt, Bool, true, false, List, [], ◌∷◌, ◌++◌, if◌then◌else◌}
use Rattle.std.specs.List.{list_any}
use Rattle.indexmap.specs.IndexSet.{insert_key}

-- x before the first that does not come before it
abbrev pub put_in : {A : Type 0} → (A → ℕ) → A → List A → List A
put_in at x [] = x ∷ []
put_in at x (y ∷ ys) = if nat_lt (at y) (at x) then y ∷ put_in at x ys else x ∷ (y ∷ ys)

-- the list in rising order; what is alike stands as before
abbrev pub by_place : {A : Type 0} → (A → ℕ) → List A → List A
by_place at [] = []
by_place at (x ∷ xs) = put_in at x (by_place at xs)

-- those that have none of the keys seen, the first of each key
abbrev pub once_after : {A K : Type 0} → (K → K → Bool) → (A → K) → List K → List A → List A
once_after eq key seen [] = []
once_after eq key seen (x ∷ xs) =
    let rest = once_after eq key (insert_key eq seen (key x)) xs in
    if list_any (eq (key x)) seen then rest else x ∷ rest

-- the first of each key
abbrev pub once : {A K : Type 0} → (K → K → Bool) → (A → K) → List A → List A
once eq key xs = once_after eq key [] xs

-- what each gives, with its number, from a number on
abbrev pub each : {A B : Type 0} → (ℕ → A → List B) → ℕ → List A → List B
each f n [] = []
each f n (x ∷ xs) = f n x ++ each f (n + 1) xs

-- a list, or the empty one where the test fails
abbrev pub when : {A : Type 0} → Bool → List A → List A
when true xs = xs
when false xs = []
