-- The first of a list that passes a test, where the list is seen through a view.
use Rattle.std.proofs.Common.{◌≡◌, ℕ, zero, suc, ◌<◌, Bool, true, false, List, [], ◌∷◌, get_or, length, map, Some, refl, arith}
use Rattle.std.specs.List.{position, position_or_len, slice_get}
use Rattle.std.proofs.lemmas.Bool.{lt-ltb}
use Rattle.std.proofs.lemmas.List.{length-map}
use Rattle.std.proofs.lemmas.List.Quantifiers.{position-Some}
use Rattle.std.proofs.lemmas.Option.{slice_get-get_or}

position_or_len-map : {A B : Type 0} (v : A → B) (f : B → Bool) (xs : List A) → position_or_len f (map v xs) ≡ position_or_len (λ x. f (v x)) xs
position_or_len-map v f [] = refl
position_or_len-map v f (x ∷ xs) = rw (position_or_len-map v f xs) refl

pub position-map : {A B : Type 0} (v : A → B) (f : B → Bool) (xs : List A) → position f (map v xs) ≡ position (λ x. f (v x)) xs
position-map v f xs = rw (position_or_len-map v f xs, length-map xs v) refl

-- what is found passes the test
pub position-passes : {A : Type 0} (p : A → Bool) (xs : List A) (i : ℕ) → position p xs ≡ Some i → (x : A) × (slice_get xs i ≡ Some x) × (p x ≡ true)
position-passes p [] i e = absurd (cc e)
position-passes p (y ∷ ys) i e = let h = position-Some p (y ∷ ys) i y e in (get_or (y ∷ ys) i y, slice_get-get_or (y ∷ ys) i y h.0, h.1)

passes-within : {A : Type 0} (p : A → Bool) (xs : List A) (i : ℕ) (x : A) → slice_get xs i ≡ Some x → p x ≡ true → position_or_len p xs < length xs
passes-within p [] i x e h = absurd (cc e)
passes-within p (y ∷ ys) zero x e h = rw (let f : p y ≡ true = cc in f) (omega arith)
passes-within p (y ∷ ys) (suc i) x e h = split (p y) refl (passes-within p ys i x e h)
  where
    split : (b : Bool) → p y ≡ b → position_or_len p ys < length ys → position_or_len p (y ∷ ys) < length (y ∷ ys)
    split true e more = rw e (omega arith)
    split false e more = rw e (omega (arith, more))

-- where one passes, one is found
pub passes-position : {A : Type 0} (p : A → Bool) (xs : List A) (i : ℕ) (x : A) → slice_get xs i ≡ Some x → p x ≡ true → (j : ℕ) × (position p xs ≡ Some j)
passes-position p xs i x e h = let lt = passes-within p xs i x e h in (position_or_len p xs, rw (lt-ltb _ _ lt) refl)

-- tests that agree find the same
pub position-same : {A : Type 0} (p q : A → Bool) → ((x : A) → p x ≡ q x) → (xs : List A) → position p xs ≡ position q xs
position-same {A} p q e xs = rw (lens xs) refl
  where
    lens : (xs : List A) → position_or_len p xs ≡ position_or_len q xs
    lens [] = refl
    lens (x ∷ xs) = rw (e x, lens xs) refl
