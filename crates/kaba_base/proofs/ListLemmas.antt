-- What stands in lists, by number and as a member: of what is put together, mapped and cut.
use Rattle.std.proofs.Common.{◌≡◌, ◌⊎◌, ℕ, zero, suc, ◌+◌, ◌<◌, List, [], ◌∷◌, ◌++◌, Some, length, get_or, map, drop, Contains, refl, sym, ap, ◌∙◌, subst, arith, inl, inr, ⊎_elim}
use Rattle.std.specs.Prelude.{slice_get}
use Rattle.std.specs.List.{All, flat_map, range_with_len}
use Rattle.std.proofs.lemmas.List.{drop_more}
use Rattle.std.proofs.lemmas.List.Elements.{Contains-get_or, Contains-append_left, Contains-append_right, Contains-append_cases}
use Rattle.std.proofs.lemmas.Option.{same_Some}

pub first : {A : Type 0} (x : A) (xs : List A) → Contains (x ∷ xs) x
first x xs = (0, omega arith, refl)

pub one : {A : Type 0} (x : A) → Contains (x ∷ []) x
one x = first x []

pub later : {A : Type 0} (x : A) (xs : List A) (y : A) → Contains xs y → Contains (x ∷ xs) y
later x xs y c = (suc c.0, omega (arith, c.1), c.2)

pub contains_cases : {A : Type 0} (x : A) (xs : List A) (y : A) → Contains (x ∷ xs) y → (x ≡ y) ⊎ Contains xs y
contains_cases x xs y (zero, lt, e) = inl e
contains_cases x xs y (suc k, lt, e) = inr (k, omega (arith, lt), e)

pub one_from : {A : Type 0} (y x : A) → Contains (y ∷ []) x → y ≡ x
one_from y x (zero, lt, e) = e
one_from y x (suc k, lt, e) = absurd (omega (arith, lt))

pub no-member : {A : Type 0} {P : Type 0} (x : A) → Contains ([]) x → P
no-member x c = absurd (omega (arith, c.1))

pub contains_at : {A : Type 0} (xs : List A) (i : ℕ) (x : A) → slice_get xs i ≡ Some x → Contains xs x
contains_at [] i x e = absurd (cc)
contains_at (y ∷ ys) zero x e = (0, omega arith, same_Some y x e)
contains_at (y ∷ ys) (suc i) x e = later y ys x (contains_at ys i x e)

pub at_contains : {A : Type 0} (xs : List A) (x : A) → Contains xs x → (i : ℕ) × (slice_get xs i ≡ Some x)
at_contains [] x c = absurd (omega (arith, c.1))
at_contains (y ∷ ys) x (zero, lt, e) = (0, ap Some e)
at_contains (y ∷ ys) x (suc k, lt, e) = let z = at_contains ys x (k, omega (arith, lt), e) in (suc z.0, z.1)

pub below_at : {A : Type 0} (xs : List A) (i : ℕ) → i < length xs → (x : A) × (slice_get xs i ≡ Some x)
below_at [] i h = absurd (omega (arith, h))
below_at (y ∷ ys) zero h = (y, refl)
below_at (y ∷ ys) (suc i) h = below_at ys i (omega (arith, h))

-- what each item has, all have
pub all_of : {A : Type 0} (P : A → Type 0) (xs : List A) → ((x : A) → Contains xs x → P x) → All P xs
all_of P xs f i d lt = f _ (Contains-get_or xs i d lt)

-- of lists that are put together
pub get_same : {A : Type 0} (xs ys : List A) (i : ℕ) → i < length xs → slice_get (xs ++ ys) i ≡ slice_get xs i
get_same [] ys i lt = absurd (omega (arith, lt))
get_same (x ∷ xs) ys zero lt = refl
get_same (x ∷ xs) ys (suc i) lt = get_same xs ys i (omega (arith, lt))

pub at_left : {A : Type 0} (xs ys : List A) (i : ℕ) (x : A) → slice_get xs i ≡ Some x → slice_get (xs ++ ys) i ≡ Some x
at_left [] ys i x e = absurd (cc)
at_left (y ∷ xs) ys zero x e = e
at_left (y ∷ xs) ys (suc i) x e = at_left xs ys i x e

pub behind : {A : Type 0} (xs ys : List A) (j : ℕ) → slice_get (xs ++ ys) (length xs + j) ≡ slice_get ys j
behind [] ys j = ap (slice_get ys) (let e : 0 + j ≡ j = omega arith in e)
behind (x ∷ xs) ys j = ap (slice_get (x ∷ (xs ++ ys))) (let e : suc (length xs) + j ≡ suc (length xs + j) = omega arith in e) ∙ behind xs ys j

pub append_cases : {A : Type 0} (xs ys : List A) (i : ℕ) (x : A) → slice_get (xs ++ ys) i ≡ Some x → (slice_get xs i ≡ Some x)
    ⊎ ((j : ℕ) × (i ≡ length xs + j) × (slice_get ys j ≡ Some x))
append_cases [] ys i x e = inr (i, omega arith, e)
append_cases (y ∷ xs) ys zero x e = inl e
append_cases (y ∷ xs) ys (suc i) x e = ⊎_elim (λ c. inl c) (λ z. inr (z.0, omega (arith, z.1), z.2)) (append_cases xs ys i x e)

pub middle : {A : Type 0} (xs : List A) (x : A) (ys : List A) → slice_get (xs ++ x ∷ ys) (length xs) ≡ Some x
middle [] x ys = refl
middle (y ∷ xs) x ys = middle xs x ys

-- of what is mapped
pub at_map : {A B : Type 0} (f : A → B) (xs : List A) (i : ℕ) (x : A) → slice_get xs i ≡ Some x → slice_get (map f xs) i ≡ Some (f x)
at_map f [] i x e = absurd (cc)
at_map f (y ∷ ys) zero x e = ap (λ z. Some (f z)) (same_Some y x e)
at_map f (y ∷ ys) (suc i) x e = at_map f ys i x e

pub map_at : {A B : Type 0} (f : A → B) (xs : List A) (i : ℕ) (y : B) → slice_get (map f xs) i ≡ Some y → (x : A) × (slice_get xs i ≡ Some x) × (f x ≡ y)
map_at f [] i y e = absurd (cc)
map_at f (x ∷ xs) zero y e = (x, refl, same_Some (f x) y e)
map_at f (x ∷ xs) (suc i) y e = map_at f xs i y e

pub map_has : {A B : Type 0} (f : A → B) (xs : List A) (x : A) → Contains xs x → Contains (map f xs) (f x)
map_has f xs x c = let z = at_contains xs x c in contains_at (map f xs) z.0 (f x) (at_map f xs z.0 x z.1)

pub map_from : {A B : Type 0} (f : A → B) (xs : List A) (y : B) → Contains (map f xs) y → (x : A) × Contains xs x × (f x ≡ y)
map_from f xs y c = let z = at_contains (map f xs) y c in let w = map_at f xs z.0 y z.1 in (w.0, contains_at xs z.0 w.0 w.1, w.2)

pub map_map : {A B C : Type 0} (f : B → C) (g : A → B) (xs : List A) → map f (map g xs) ≡ map (λ x. f (g x)) xs
map_map f g [] = refl
map_map f g (x ∷ xs) = ap (λ l. f (g x) ∷ l) (map_map f g xs)

pub flat_has : {A B : Type 0} (f : A → List B) (xs : List A) (x : A) (y : B) → Contains xs x → Contains (f x) y → Contains (flat_map f xs) y
flat_has f [] x y c d = absurd (omega (arith, c.1))
flat_has f (z ∷ zs) x y (zero, lt, e) d = Contains-append_left (f z) (flat_map f zs) y (subst (λ w. Contains (f w) y) (sym e) d)
flat_has f (z ∷ zs) x y (suc k, lt, e) d = Contains-append_right (f z) (flat_map f zs) y (flat_has f zs x y (k, omega (arith, lt), e) d)

pub flat_from : {A B : Type 0} (f : A → List B) (xs : List A) (y : B) → Contains (flat_map f xs) y → (x : A) × Contains xs x × Contains (f x) y
flat_from f [] y c = absurd (omega (arith, c.1))
flat_from f (x ∷ xs) y c = ⊎_elim (λ d. (x, first x xs, d)) (λ d. let z = flat_from f xs y d in (z.0, later x xs z.0 z.1, z.2))
    (Contains-append_cases (f x) (flat_map f xs) y c)

-- of what is cut, and of numbers in a row
pub drop_at : {A : Type 0} (xs : List A) (i : ℕ) (x : A) → i < length xs → x ≡ get_or xs i x → drop i xs ≡ x ∷ drop (i + 1) xs
drop_at xs i x lt e = drop_more xs i x lt ∙ ap (λ y. y ∷ drop (i + 1) xs) (sym e)

pub range_more : (a n : ℕ) → range_with_len a (suc n) ≡ range_with_len a n ++ (a + n) ∷ []
range_more a zero = let e : a ≡ a + 0 = omega arith in ap (λ k. k ∷ []) e
range_more a (suc n) =
    let e : a + 1 + n ≡ a + suc n = omega arith in
    ap (λ xs. a ∷ xs) (range_more (a + 1) n) ∙ ap (λ k. a ∷ (range_with_len (a + 1) n ++ k ∷ [])) e
