-- Lists of which no two members agree.
use Rattle.std.proofs.Common.{◌≡◌, ℕ, zero, suc, ◌+◌, ◌<◌, ◌≤◌, Bool, true, false, cond, List, [], ◌∷◌, ◌++◌, Some, Contains, refl, sym, subst, arith, ⊎_elim}
use Rattle.std.specs.Prelude.{map, filter, slice_get}
use Rattle.std.specs.List.{range_with_len, flat_map}
use Rattle.std.proofs.lemmas.Option.{same_Some}
use Rattle.std.proofs.lemmas.List.Elements.{Contains-append_cases}
use Rattle.flow_rules.specs.Ordered.{each, when}
use Rattle.flow_rules.proofs.Listed.{first, more, contains_at, each_from, map_from, one_from, flat_from}
use Rattle.write_laws.proofs.rebuilds.Order.{filter_from}

abbrev pub Once : {A : Type 0} → (A → A → Type 0) → List A → Type 0
Once agree [] = Unit {0}
Once agree (x ∷ xs) = ((y : _) → Contains xs y → agree x y → ⊥) × Once agree xs

pub once_at : {A : Type 0} (agree : A → A → Type 0) (xs : List A) → Once agree xs → (i j : ℕ) (x y : A) → slice_get xs i ≡ Some x
    → slice_get xs j ≡ Some y → i < j → agree x y → ⊥
once_at agree [] o i j x y p q lt = absurd (cc p)
once_at agree (a ∷ rest) o i zero x y p q lt = absurd (omega (arith, lt))
once_at agree (a ∷ rest) o zero (suc j) x y p q lt = λ h. o.0 y (contains_at rest j y q) (subst (λ z. agree z y) (sym (same_Some a x p)) h)
once_at agree (a ∷ rest) o (suc i) (suc j) x y p q lt = once_at agree rest o.1 i j x y p q (omega (arith, lt))

pub append_once : {A : Type 0} (agree : A → A → Type 0) (xs ys : List A) → Once agree xs → Once agree ys
    → ((x y : A) → Contains xs x → Contains ys y → agree x y → ⊥) → Once agree (xs ++ ys)
append_once agree [] ys o p h = p
append_once agree (x ∷ xs) ys o p h = (
  λ y c. ⊎_elim (λ d. o.0 y d) (λ d. h x y (first x xs) d) (Contains-append_cases xs ys y c),
  append_once agree xs ys o.1 p (λ a b c d. h a b (more a x xs c) d),
)

pub each_once : {A B : Type 0} (agree : B → B → Type 0) (f : ℕ → A → List B) (n : ℕ) (xs : List A)
    → ((i j : ℕ) (x : A) → slice_get xs i ≡ Some x → j ≡ n + i → Once agree (f j x))
    → ((i j k l : ℕ) (x y : A) (a b : B) → slice_get xs i ≡ Some x → slice_get xs j ≡ Some y → i < j → k ≡ n + i → l ≡ n + j → Contains (f k x) a
    → Contains (f l y) b → agree a b → ⊥)
    → Once agree (each f n xs)
each_once agree f n [] one apart = tt
each_once agree f n (x ∷ xs) one apart =
    append_once agree (f n x) (each f (n + 1) xs) (one 0 n x refl (omega arith))
    (each_once agree f (n + 1) xs (λ i j y e k. one (suc i) j y e (omega (arith, k)))
    (λ i j k l y z a b p q lt u v. apart (suc i) (suc j) k l y z a b p q (omega (arith, lt)) (omega (arith, u)) (omega (arith, v))))
    (λ a b c d. let z = each_from f (n + 1) xs b d in
    apart 0 (suc z.0) n z.1 x z.2 a b refl z.3 (omega arith) (omega arith) (let e = z.4 in omega (arith, e)) c z.5)

-- what each item of a list without repetition gives, where two give nothing alike
pub flat_once : {A B : Type 0} (agree : B → B → Type 0) (same : A → A → Type 0) (f : A → List B) (xs : List A) → Once same xs → ((x : A) → Once agree (f x))
    → ((x y : A) (a b : B) → (same x y → ⊥) → Contains (f x) a → Contains (f y) b → agree a b → ⊥) → Once agree (flat_map f xs)
flat_once agree same f [] o one apart = tt
flat_once agree same f (x ∷ xs) o one apart =
    append_once agree (f x) (flat_map f xs) (one x) (flat_once agree same f xs o.1 one apart)
    (λ a b c d. let z = flat_from f xs b d in apart x z.0 a b (o.0 z.0 z.1) c z.2)

pub one_once : {A : Type 0} (agree : A → A → Type 0) (x : A) → Once agree (x ∷ [])
one_once agree x = (λ y c. absurd (let l = c.1 in omega (arith, l)), tt)

pub when_once : {A : Type 0} (agree : A → A → Type 0) (b : Bool) (xs : List A) → Once agree xs → Once agree (when b xs)
when_once agree true xs o = o
when_once agree false xs o = tt

pub map_once : {A B : Type 0} (agree : B → B → Type 0) (f : A → B) (xs : List A) → Once (λ x y. agree (f x) (f y)) xs → Once agree (map f xs)
map_once agree f [] o = tt
map_once agree f (x ∷ xs) o = (λ y c h. let z = map_from f xs y c in o.0 z.0 z.1 (subst (agree (f x)) (sym z.2) h), map_once agree f xs o.1)

pub range_from : (n a x : ℕ) → Contains (range_with_len a n) x → a ≤ x
range_from zero a x c = absurd (let l = c.1 in omega (arith, l))
range_from (suc n) a x c =
    ⊎_elim
    (λ d. let e = one_from a x d in omega (arith, e))
    (λ d. let l = range_from n (a + 1) x d in omega (arith, l))
    (Contains-append_cases (a ∷ []) (range_with_len (a + 1) n) x c)

pub filter_once : {A : Type 0} (agree : A → A → Type 0) (p : A → Bool) (xs : List A) → Once agree xs → Once agree (filter p xs)
filter_once agree p [] o = tt
filter_once agree p (x ∷ xs) o = keep (p x) (filter_once agree p xs o.1)
  where
    keep : (b : Bool) → Once agree (filter p xs) → Once agree (cond b (x ∷ filter p xs) (filter p xs))
    keep true r = (λ y c h. o.0 y (filter_from p xs y c).0 h, r)
    keep false r = r

pub range_once : (n a : ℕ) → Once (λ x y. x ≡ y) (range_with_len a n)
range_once zero a = tt
range_once (suc n) a = (λ y c e. let l = range_from n (a + 1) y c in omega (arith, l, e), range_once n (a + 1))
