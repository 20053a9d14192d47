-- A search through a rising list of all numbers that can have an answer.
use Rattle.std.proofs.Common.{◌≡◌, ℕ, suc, zero, ◌+◌, ◌<◌, ◌↔◌, ◌⊎◌, ◌||◌, ◌&&◌, eqb, cond, Bool, true, false, List, [], ◌∷◌, ◌++◌, length, get_or, take, map, Contains, Option, Some, None, refl, sym, ap, ◌∙◌, subst, ⊎_elim, arith, inl, inr}
use Rattle.std.specs.Prelude.{filter}
use Rattle.std.specs.List.{list_any}
use Rattle.std.specs.List.Sorted.{IsNonDecreasing, IsPermutation}
use Rattle.std.proofs.lemmas.Bool.{cases_lt, cases_Bool, or_cases, and_parts, eqb-true, eq-eqb, false≢true}
use Rattle.std.proofs.lemmas.List.{get_or_default, append-nil}
use Rattle.std.proofs.lemmas.List.Folds.{list_any_more}
use Rattle.std.proofs.lemmas.List.Elements.{Contains-append_left, Contains-push, Contains-push_cases, Contains-get_or}
use Rattle.std.proofs.lemmas.List.Sorted.{Contains-permutation, IsPermutation-sym}
use Rattle.kaba_bits.specs.Sets.{first_below}
use Rattle.kaba_bits.proofs.FirstLemmas.{first_below_found, first_below_clear}
use Rattle.hier_rules.specs.Asked.{bound_of}

-- a rising list of numbers below n, which has each number that f answers
pub record AreKeys {B : Type 0} (f : ℕ → Option B) (n : ℕ) (xs : List ℕ) : Type 0 where
  pub sorted : IsNonDecreasing xs
  pub below : (k : ℕ) → Contains xs k → k < n
  pub all : (k : ℕ) → Contains xs k ⊎ (f k ≡ None)

module _ {B : Type 0} (f : ℕ → Option B) (n : ℕ) (xs : List ℕ) (K : AreKeys f n xs) where
  key_below : (i : ℕ) → i < length xs → get_or xs i 0 < n
  key_below i lt = K.below (get_or xs i 0) (Contains-get_or xs i 0 lt)

  before : (i k : ℕ) → i < length xs → ((j : ℕ) → j < i → f (get_or xs j 0) ≡ None) → k < get_or xs i 0 → f k ≡ None
  before i k lt none less =
      ⊎_elim
      (λ c. let at : get_or xs c.0 0 ≡ k = get_or_default xs c.0 0 k c.1 ∙ c.2 in
      ⊎_elim
      (λ earlier. subst (λ y. f y ≡ None) at (none c.0 earlier))
      (λ later. let up = K.sorted i c.0 0 later c.1 in absurd (omega (arith, up, at, less)))
      (cases_lt c.0 i))
      (λ e. e)
      (K.all k)

  pub key_found : (i : ℕ) (x : B) → i < length xs → ((j : ℕ) → j < i → f (get_or xs j 0) ≡ None) → f (get_or xs i 0) ≡ Some x → first_below n f ≡ Some x
  key_found i x lt none h = first_below_found f (get_or xs i 0) n x (key_below i lt) (first_below_clear f (get_or xs i 0) (λ k less. before i k lt none less)) h

  pub key_none : ((j : ℕ) → j < length xs → f (get_or xs j 0) ≡ None) → first_below n f ≡ None
  key_none none =
      first_below_clear f n (λ k lt.
      ⊎_elim (λ c. subst (λ y. f y ≡ None) (get_or_default xs c.0 0 k c.1 ∙ c.2) (none c.0 c.1)) (λ e. e) (K.all k))

-- the keys of those of the first i of a list that pass a test, and what was there before
abbrev pub Collects : {X : Type 0} → (X → ℕ) → (X → Bool) → (ℕ → Bool) → List ℕ → List X → ℕ → Type 0
Collects f p base out xs i = (x : ℕ) → Contains out x ↔ ((base x || list_any (λ k. p k && eqb (f k) x) (take i xs)) ≡ true)

module _ {X : Type 0} (f : X → ℕ) (p : X → Bool) (base : ℕ → Bool) (out : List ℕ) (xs : List X) (i : ℕ) (k d : X) (lt : i < length xs)
    (e : k ≡ get_or xs i d) (h : Collects f p base out xs i) where
  abbrev any : ℕ → X → Bool
  any x y = p y && eqb (f y) x

  more : (x : ℕ) → list_any (any x) (take (i + 1) xs) ≡ (list_any (any x) (take i xs) || any x k)
  more x = list_any_more (any x) xs i d lt ∙ ap (λ y. list_any (any x) (take i xs) || any x y) (sym e)

  or_drop : (b c : Bool) → (b || (c || false)) ≡ (b || c)
  or_drop true c = refl
  or_drop false true = refl
  or_drop false false = refl

  pub collect_skip : p k ≡ false → Collects f p base out xs (i + 1)
  collect_skip fails x =
      let same : (base x || list_any (any x) (take (i + 1) xs)) ≡ (base x || list_any (any x) (take i xs)) =
      ap (λ y. base x || y) (more x ∙ ap (λ y. list_any (any x) (take i xs) || (y && eqb (f k) x)) fails) ∙ or_drop (base x) (list_any (any x) (take i xs)) in
      (λ c. same ∙ (h x).0 c, λ g. (h x).1 (sym same ∙ g))

  or_three : (b c y : Bool) → (b || (c || y)) ≡ true → ((b || c) ≡ true) ⊎ (y ≡ true)
  or_three true c y g = inl refl
  or_three false true y g = inl refl
  or_three false false y g = inr g

  or_first : (b c y : Bool) → (b || c) ≡ true → (b || (c || y)) ≡ true
  or_first true c y g = refl
  or_first false true y g = refl
  or_first false false y g = absurd (false≢true g)

  or_last : (b c y : Bool) → y ≡ true → (b || (c || y)) ≡ true
  or_last true c y g = refl
  or_last false true y g = refl
  or_last false false y g = g

  pub collect_push : p k ≡ true → Collects f p base (out ++ f k ∷ []) xs (i + 1)
  collect_push passes x =
      let same : (base x || list_any (any x) (take (i + 1) xs)) ≡ (base x || (list_any (any x) (take i xs) || eqb (f k) x)) =
      ap (λ y. base x || y) (more x ∙ ap (λ y. list_any (any x) (take i xs) || (y && eqb (f k) x)) passes) in (
        λ c. ⊎_elim
            (λ a. same ∙ or_first (base x) (list_any (any x) (take i xs)) (eqb (f k) x) ((h x).0 a))
            (λ b. same ∙ or_last (base x) (list_any (any x) (take i xs)) (eqb (f k) x) (eq-eqb (f k) x b))
            (Contains-push_cases out (f k) x c),
        λ g. ⊎_elim
            (λ a. Contains-append_left out (f k ∷ []) x ((h x).1 a))
            (λ b. subst (Contains (out ++ f k ∷ [])) (eqb-true (f k) x b) (Contains-push out (f k)))
            (or_three (base x) (list_any (any x) (take i xs)) (eqb (f k) x) (sym same ∙ g)),
      )

  pub collect_more : Collects f p base (out ++ cond (p k) (f k ∷ []) []) xs (i + 1)
  collect_more =
      ⊎_elim
      (λ passes. subst (λ b. Collects f p base (out ++ cond b (f k ∷ []) []) xs (i + 1)) (sym passes) (collect_push passes))
      (λ fails. subst (λ b. Collects f p base (out ++ cond b (f k ∷ []) []) xs (i + 1)) (sym fails) (subst (λ o. Collects f p base o xs (i + 1))
      (sym (append-nil out)) (collect_skip fails)))
      (cases_Bool (p k))

-- the keys of those of a list that pass a test
pub keys_of : {X : Type 0} (f : X → ℕ) (p : X → Bool) (xs : List X) (x : ℕ) → Contains (map f (filter p xs)) x ↔ (list_any (λ k. p k && eqb (f k) x) xs ≡ true)
keys_of f p [] x = (λ c. absurd (omega (arith, c.1)), λ h. absurd (false≢true h))
keys_of f p (k ∷ xs) x = split (cases_Bool (p k)) (cases_Bool (eqb (f k) x)) (keys_of f p xs x)
  where
    later : (y x : ℕ) (ys : List ℕ) → (y ≡ x → ⊥) → Contains (y ∷ ys) x → Contains ys x
    later y x ys ne (zero, lt, e) = absurd (ne e)
    later y x ys ne (suc j, lt, e) = (j, omega (arith, lt), e)

    split : (p k ≡ true) ⊎ (p k ≡ false) → (eqb (f k) x ≡ true) ⊎ (eqb (f k) x ≡ false)
        → Contains (map f (filter p xs)) x ↔ (list_any (λ k. p k && eqb (f k) x) xs ≡ true)
        → Contains (map f (filter p (k ∷ xs))) x ↔ ((p k && eqb (f k) x) || list_any (λ k. p k && eqb (f k) x) xs ≡ true)
    split (inr n) e rest = rw n rest
    split (inl y) (inl e) rest = rw y ((λ c. rw e refl), (λ h. (0, omega arith, eqb-true (f k) x e)))
    split (inl y) (inr e) rest =
        rw y (
          (λ c. rw e (rest.0 (later (f k) x (map f (filter p xs)) (λ s. false≢true (sym e ∙ eq-eqb (f k) x s)) c))),
          (λ h. let c = rest.1 (rw e at h) in (suc c.0, omega (arith, c.1), c.2)),
        )

all_pass : {X : Type 0} (xs : List X) → filter (λ x. true) xs ≡ xs
all_pass [] = refl
all_pass (x ∷ xs) = ap (λ ys. x ∷ ys) (all_pass xs)

-- the keys of all
pub keys_all : {X : Type 0} (f : X → ℕ) (xs : List X) (x : ℕ) → Contains (map f xs) x ↔ (list_any (λ k. eqb (f k) x) xs ≡ true)
keys_all f xs x = subst (λ ys. Contains (map f ys) x ↔ (list_any (λ k. eqb (f k) x) xs ≡ true)) (all_pass xs) (keys_of f (λ k. true) xs x)

-- a sort keeps what a list has
pub sorted_same : {P : ℕ → Type 0} (xs ys : List ℕ) → IsPermutation xs ys → ((x : ℕ) → Contains xs x ↔ P x) → (x : ℕ) → Contains ys x ↔ P x
sorted_same xs ys s h x = (λ c. (h x).0 (Contains-permutation ys xs x (IsPermutation-sym xs ys s) c), λ g. Contains-permutation xs ys x s ((h x).1 g))

-- each key is below the bound of all
pub bound_above : {X : Type 0} (f : X → ℕ) (p : X → Bool) (xs : List X) (x : ℕ) → list_any (λ k. p k && eqb (f k) x) xs ≡ true → x < bound_of f xs
bound_above f p [] x h = absurd (false≢true h)
bound_above f p (k ∷ xs) x h =
    ⊎_elim
    (λ a. let e = eqb-true (f k) x (and_parts (p k) (eqb (f k) x) a).1 in omega (arith, e))
    (λ b. let rest = bound_above f p xs x b in omega (arith, rest))
    (or_cases (p k && eqb (f k) x) (list_any (λ k. p k && eqb (f k) x) xs) h)
