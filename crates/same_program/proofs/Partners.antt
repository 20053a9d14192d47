-- Lists in which each item has one of another list with which it is one.
use Rattle.std.proofs.Common.{◌≡◌, ℕ, zero, suc, ◌+◌, ◌<◌, List, [], ◌∷◌, length, drop, get_or, add-one, drop-cons, refl, ap, ap₂, arith}
use Rattle.std.specs.Prelude.{◌==◌, ◌&&◌, ◌||◌, Bool, true, false, map}
use Rattle.std.specs.List.{list_any}
use Rattle.same_program.specs.Same.{each_has}

-- one more item is looked at
pub any_step : {A B : Type 0} (v : A → B) (f : B → Bool) (xs : List A) (i : ℕ) (d : A) → i < length xs
    → list_any f (map v (drop i xs)) ≡ (f (v (get_or xs i d)) || list_any f (map v (drop (i + 1) xs)))
any_step v f xs i d h = rw (add-one, drop-cons xs i d)

pub any_end : {A B : Type 0} (v : A → B) (f : B → Bool) (xs : List A) → list_any f (map v (drop (length xs) xs)) ≡ false
any_end v f [] = refl
any_end v f (x ∷ xs) = any_end v f xs

-- an item of which the test holds
pub any_at : {A B : Type 0} (v : A → B) (f : B → Bool) (xs : List A) (i : ℕ) (d : A) → i < length xs → f (v (get_or xs i d)) ≡ true
    → list_any f (map v xs) ≡ true
any_at v f [] i d h e = absurd (omega (arith, h))
any_at v f (x ∷ xs) zero d h e = ap (λ b. b || list_any f (map v xs)) e
any_at v f (x ∷ xs) (suc i) d h e = go (f (v x)) (any_at v f xs i d (let k : suc i < suc (length xs) = h in omega (arith, k)) e)
  where
    go : (b : Bool) → list_any f (map v xs) ≡ true → (b || list_any f (map v xs)) ≡ true
    go true e = refl
    go false e = e

pub each_step : {A B : Type 0} (v : A → B) (f : B → B → Bool) (ys : List B) (xs : List A) (i : ℕ) (d : A) → i < length xs
    → each_has f (map v (drop i xs)) ys ≡ (list_any (f (v (get_or xs i d))) ys && each_has f (map v (drop (i + 1) xs)) ys)
each_step v f ys xs i d h = rw (add-one, drop-cons xs i d)

pub each_end : {A B : Type 0} (v : A → B) (f : B → B → Bool) (ys : List B) (xs : List A) → each_has f (map v (drop (length xs) xs)) ys ≡ true
each_end v f ys [] = refl
each_end v f ys (x ∷ xs) = each_end v f ys xs

pub ruleset any = (any_step, any_end, any_at, each_step, each_end)

same_length : {A B : Type 0} (v : A → B) (xs : List A) → length (map v xs) ≡ length xs
same_length v [] = refl
same_length v (x ∷ xs) = ap suc (same_length v xs)

-- lists are as long as what they are seen as
pub same_many : {A B : Type 0} (v : A → B) (xs ys : List A) → (length (map v xs) == length (map v ys)) ≡ (length xs == length ys)
same_many v xs ys = ap₂ (λ a b. a == b) (same_length v xs) (same_length v ys)

pub ruleset counts = (same_many)
