-- Lists that are read as sets, and lists that are seen through a view: what asks only that finds the same.
use Rattle.std.proofs.Common.{◌≡◌, ◌⊎◌, ℕ, zero, suc, ◌+◌, ◌≤◌, Bool, true, false, ◌||◌, List, [], ◌∷◌, map, max, Contains, Option, refl, sym, ap, ◌∙◌, subst, arith, inl, inr, ⊎_elim}
use Rattle.std.specs.Prelude.{slice_get, option_and_then}
use Rattle.std.specs.Option.{option_map_or}
use Rattle.std.specs.List.{list_any}
use Rattle.std.proofs.Math.Nat.{le-max_left, le-max_right, max-le}
use Rattle.kaba_base.proofs.ListLemmas.{first, later, contains_cases, map_has, map_from}
use Rattle.hier_rules.specs.Asked.{bound_of}
use Rattle.flow_rules.specs.Facts.{IsSameSet}

-- truth values that follow from each other are one
pub same_truth : (a b : Bool) → (a ≡ true → b ≡ true) → (b ≡ true → a ≡ true) → a ≡ b
same_truth true b f g = sym (f refl)
same_truth false true f g = g refl
same_truth false false f g = refl

any_cases : (a b : Bool) → a || b ≡ true → (a ≡ true) ⊎ (b ≡ true)
any_cases true b e = inl refl
any_cases false b e = inr e

any_first : (a b : Bool) → a ≡ true → a || b ≡ true
any_first true b e = refl
any_first false b e = absurd (cc e)

any_second : (a b : Bool) → b ≡ true → a || b ≡ true
any_second true b e = refl
any_second false b e = e

module _ {A : Type 0} where
  any_has : (p : A → Bool) (xs : List A) → list_any p xs ≡ true → (x : A) × Contains xs x × (p x ≡ true)
  any_has p [] e = absurd (cc e)
  any_has p (x ∷ xs) e = ⊎_elim (λ h. (x, first x xs, h)) (λ h. let r = any_has p xs h in (r.0, later x xs r.0 r.1, r.2)) (any_cases (p x) (list_any p xs) e)

  any_of : (p : A → Bool) (xs : List A) (x : A) → Contains xs x → p x ≡ true → list_any p xs ≡ true
  any_of p [] x c e = absurd (omega (arith, c.1))
  any_of p (y ∷ ys) x c e = ⊎_elim (λ h. any_first (p y) (list_any p ys) (ap p h ∙ e)) (λ h. any_second (p y) (list_any p ys) (any_of p ys x h e))
      (contains_cases y ys x c)

  -- some item of a set passes a test
  pub any_set : (p : A → Bool) (xs ys : List A) → IsSameSet xs ys → list_any p xs ≡ list_any p ys
  any_set p xs ys s =
      same_truth (list_any p xs) (list_any p ys)
      (λ e. let r = any_has p xs e in any_of p ys r.0 ((s r.0).0 r.1) r.2) (λ e. let r = any_has p ys e in any_of p xs r.0 ((s r.0).1 r.1) r.2)

  bound_has : (f : A → ℕ) (xs : List A) (x : A) → Contains xs x → f x + 1 ≤ bound_of f xs
  bound_has f [] x c = absurd (omega (arith, c.1))
  bound_has f (y ∷ ys) x c =
      ⊎_elim (λ h. subst (λ z. f z + 1 ≤ bound_of f (y ∷ ys)) h (le-max_left (f y + 1) (bound_of f ys)))
      (λ h. let a = bound_has f ys x h in let b = le-max_right (f y + 1) (bound_of f ys) in omega (arith, a, b)) (contains_cases y ys x c)

  bound_within : (f : A → ℕ) (xs : List A) (n : ℕ) → ((x : A) → Contains xs x → f x + 1 ≤ n) → bound_of f xs ≤ n
  bound_within f [] n h = omega arith
  bound_within f (x ∷ xs) n h = max-le (h x (first x xs)) (bound_within f xs n (λ y c. h y (later x xs y c)))

  -- the numbers of a set are below the same
  pub bound_set : (f : A → ℕ) (xs ys : List A) → IsSameSet xs ys → bound_of f xs ≡ bound_of f ys
  bound_set f xs ys s =
      let a = bound_within f xs (bound_of f ys) (λ x c. bound_has f ys x ((s x).0 c)) in
      let b = bound_within f ys (bound_of f xs) (λ x c. bound_has f xs x ((s x).1 c)) in
      omega (arith, a, b)

module _ {A B : Type 0} (v : A → B) where
  -- what is asked of items as they are seen
  pub any_seen : (p : B → Bool) (xs : List A) → list_any (λ x. p (v x)) xs ≡ list_any p (map v xs)
  any_seen p [] = refl
  any_seen p (x ∷ xs) = ap (λ z. p (v x) || z) (any_seen p xs)

  pub bound_seen : (f : B → ℕ) (xs : List A) → bound_of (λ x. f (v x)) xs ≡ bound_of f (map v xs)
  bound_seen f [] = refl
  bound_seen f (x ∷ xs) = ap (max (f (v x) + 1)) (bound_seen f xs)

  pub or_seen : {C : Type 0} (f : B → C) (none : C) (xs : List A) (a : ℕ) → option_map_or (λ x. f (v x)) (slice_get xs a) none
      ≡ option_map_or f (slice_get (map v xs) a) none
  or_seen f none [] a = refl
  or_seen f none (x ∷ xs) zero = refl
  or_seen f none (x ∷ xs) (suc a) = or_seen f none xs a

  pub then_seen : {C : Type 0} (f : B → Option C) (xs : List A) (a : ℕ) → option_and_then (λ x. f (v x)) (slice_get xs a)
      ≡ option_and_then f (slice_get (map v xs) a)
  then_seen f [] a = refl
  then_seen f (x ∷ xs) zero = refl
  then_seen f (x ∷ xs) (suc a) = then_seen f xs a

  -- an item of one list is seen as one of another
  pub seen_in : (xs ys : List A) → map v xs ≡ map v ys → (x : A) → Contains xs x → (y : A) × Contains ys y × (v y ≡ v x)
  seen_in xs ys e x c = map_from v ys (v x) (subst (λ z. Contains z (v x)) e (map_has v xs x c))
