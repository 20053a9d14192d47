-- Lists whose items are compared one by one.
use Rattle.std.proofs.Common.{◌≡◌, ◌≢◌, ℕ, suc, ◌+◌, ◌<◌, List, [], ◌∷◌, length, drop, get_or, add-one, drop-cons, refl, arith}
use Rattle.std.specs.Prelude.{◌&&◌, Bool, true, false, map}
use Rattle.std.proofs.lemmas.Bool.{false≢true}
use Rattle.same_program.specs.Same.{all_one}

and_right : (a b : Bool) → (a && b) ≡ true → b ≡ true
and_right true b h = h
and_right false b h = absurd (false≢true h)

not_so : {A : Type 0} (b : Bool) → (b ≡ true → A) → (A → ⊥) → false ≡ b
not_so true f g = absurd (g (f refl))
not_so false f g = refl

-- one more item of both lists is compared
pub all_step : {A : Type 0} (f : A → A → Bool) (xs ys : List A) (i : ℕ) (d e : A) → i < length xs → i < length ys → all_one f (drop i xs) (drop i ys)
    ≡ (f (get_or xs i d) (get_or ys i e) && all_one f (drop (i + 1) xs) (drop (i + 1) ys))
all_step f xs ys i d e h k = rw (add-one, drop-cons xs i d, drop-cons ys i e)

all_long : {A : Type 0} (f : A → A → Bool) (xs ys : List A) → all_one f xs ys ≡ true → length xs ≡ length ys
all_long f [] [] h = refl
all_long f (x ∷ xs) (y ∷ ys) h = let k = all_long f xs ys (and_right (f x y) _ h) in omega (arith, k)
all_long f [] (y ∷ ys) h = absurd (false≢true h)
all_long f (x ∷ xs) [] h = absurd (false≢true h)

pub all_apart : {A : Type 0} (f : A → A → Bool) (xs ys : List A) → length xs ≢ length ys → false ≡ all_one f xs ys
all_apart f xs ys h = not_so _ (all_long f xs ys) h

pub all_end : {A : Type 0} (f : A → A → Bool) (xs ys : List A) → length xs ≡ length ys → true ≡ all_one f (drop (length xs) xs) (drop (length xs) ys)
all_end f [] [] h = refl
all_end f (x ∷ xs) (y ∷ ys) h = all_end f xs ys (let k : suc (length xs) ≡ suc (length ys) = h in omega (arith, k))
all_end f [] (y ∷ ys) h = absurd (let k : 0 ≡ suc (length ys) = h in omega (arith, k))
all_end f (x ∷ xs) [] h = absurd (let k : suc (length xs) ≡ 0 = h in omega (arith, k))

-- the same of lists that are seen through a view
pub view_step : {A B : Type 0} (v : A → B) (f : B → B → Bool) (xs ys : List A) (i : ℕ) (d e : A) → i < length xs → i < length ys
    → all_one f (map v (drop i xs)) (map v (drop i ys)) ≡ (f (v (get_or xs i d)) (v (get_or ys i e)) && all_one f (map v (drop (i + 1) xs)) (map v (drop (i + 1) ys)))
view_step v f xs ys i d e h k = rw (add-one, drop-cons xs i d, drop-cons ys i e)

view_long : {A B : Type 0} (v : A → B) (f : B → B → Bool) (xs ys : List A) → all_one f (map v xs) (map v ys) ≡ true → length xs ≡ length ys
view_long v f [] [] h = refl
view_long v f (x ∷ xs) (y ∷ ys) h = let k = view_long v f xs ys (and_right (f (v x) (v y)) _ h) in omega (arith, k)
view_long v f [] (y ∷ ys) h = absurd (false≢true h)
view_long v f (x ∷ xs) [] h = absurd (false≢true h)

pub view_apart : {A B : Type 0} (v : A → B) (f : B → B → Bool) (xs ys : List A) → length xs ≢ length ys → false ≡ all_one f (map v xs) (map v ys)
view_apart v f xs ys h = not_so _ (view_long v f xs ys) h

pub view_end : {A B : Type 0} (v : A → B) (f : B → B → Bool) (xs ys : List A) → length xs ≡ length ys
    → true ≡ all_one f (map v (drop (length xs) xs)) (map v (drop (length xs) ys))
view_end v f [] [] h = refl
view_end v f (x ∷ xs) (y ∷ ys) h = view_end v f xs ys (let k : suc (length xs) ≡ suc (length ys) = h in omega (arith, k))
view_end v f [] (y ∷ ys) h = absurd (let k : 0 ≡ suc (length ys) = h in omega (arith, k))
view_end v f (x ∷ xs) [] h = absurd (let k : suc (length xs) ≡ 0 = h in omega (arith, k))

pub ruleset all = (all_step, all_apart, all_end, view_step, view_apart, view_end)
