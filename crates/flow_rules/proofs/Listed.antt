-- What lists in the order of places, and of each item once, hold.
use Rattle.std.proofs.Common.{◌≡◌, ℕ, zero, suc, ◌+◌, List, [], ◌∷◌, ◌++◌, Some, None, refl, sym, ap, ◌∙◌, subst, arith, inl, inr, ⊎_elim}
use Rattle.std.specs.Prelude.{◌⊎◌, if◌then◌else◌, nat_lt, length, Bool, true, false, Contains, map, slice_get, slice_index_or, position}
use Rattle.std.specs.List.{list_any}
use Rattle.std.proofs.lemmas.List.Folds.{list_any-append}
use Rattle.std.proofs.lemmas.List.Elements.{Contains-append_left, Contains-append_right, Contains-append_cases}
use Rattle.std.proofs.lemmas.Bool.{false≢true, or_left, or_right, or_cases}
use Rattle.std.proofs.lemmas.Option.{same_Some}
use Rattle.kaba_base.proofs.ListLemmas.{contains_cases, later}
pub use Rattle.kaba_base.proofs.ListLemmas.{first, one, contains_at, at_contains, below_at, at_map, map_at, at_left, map_has, map_from, flat_has, flat_from, one_from, all_of}
use Rattle.java_core.proofs.Positions.{position-passes, passes-position}
use Rattle.indexmap.specs.IndexSet.{insert_key}
use Rattle.flow_rules.specs.Ordered.{put_in, by_place, once_after, once, each, when}

pub more : {A : Type 0} (x y : A) (xs : List A) → Contains xs x → Contains (y ∷ xs) x
more x y xs c = later y xs x c

pub index_at : {A : Type 0} (xs : List A) (i : ℕ) (d x : A) → slice_get xs i ≡ Some x → slice_index_or xs i d ≡ x
index_at [] i d x e = absurd (cc)
index_at (y ∷ ys) zero d x e = same_Some y x e
index_at (y ∷ ys) (suc i) d x e = index_at ys i d x e

pub index_past : {A : Type 0} (xs : List A) (i : ℕ) (d : A) → slice_get xs i ≡ None → slice_index_or xs i d ≡ d
index_past [] i d e = refl
index_past (y ∷ ys) zero d e = absurd (cc)
index_past (y ∷ ys) (suc i) d e = index_past ys i d e

pub each_has : {A B : Type 0} (f : ℕ → A → List B) (n : ℕ) (xs : List A) (i : ℕ) (x : A) (y : B) → slice_get xs i ≡ Some x → (j : ℕ) → j ≡ n + i
    → Contains (f j x) y → Contains (each f n xs) y
each_has f n [] i x y e j d c = absurd (cc)
each_has f n (z ∷ zs) zero x y e j d c = Contains-append_left (f n z) (each f (n + 1) zs) y (subst (λ w. Contains (f n w) y) (sym (same_Some z x e))
    (subst (λ w. Contains (f w x) y) (omega (arith, d)) c))
each_has f n (z ∷ zs) (suc i) x y e j d c = Contains-append_right (f n z) (each f (n + 1) zs) y (each_has f (n + 1) zs i x y e j (omega (arith, d)) c)

-- what an item of one of two lists gives, numbered on
pub two_have : {A B : Type 0} (f : ℕ → A → List B) (n l : ℕ) (xs ys : List A) (i : ℕ) (x : A) (y : B) → slice_get (xs ++ ys) i ≡ Some x
    → l ≡ n + length xs → (j : ℕ) → j ≡ n + i → Contains (f j x) y → Contains (each f n xs) y ⊎ Contains (each f l ys) y
two_have f n l [] ys i x y e h j d c = inr (each_has f l ys i x y e j (omega (arith, h, d)) c)
two_have f n l (z ∷ zs) ys zero x y e h j d c = inl (each_has f n (z ∷ zs) zero x y e j d c)
two_have f n l (z ∷ zs) ys (suc i) x y e h j d c = ⊎_elim (λ w. inl (Contains-append_right (f n z) (each f (n + 1) zs) y w)) (λ w. inr w)
    (two_have f (n + 1) l zs ys i x y e (omega (arith, h)) j (omega (arith, d)) c)

pub each_from : {A B : Type 0} (f : ℕ → A → List B) (n : ℕ) (xs : List A) (y : B) → Contains (each f n xs) y → (i : ℕ) × (j : ℕ) × (x : A)
    × (slice_get xs i ≡ Some x) × (j ≡ n + i) × Contains (f j x) y
each_from f n [] y c = absurd (omega (arith, c.1))
each_from f n (x ∷ xs) y c =
    ⊎_elim (λ d. (0, n, x, refl, omega arith, d)) (λ d. let z = each_from f (n + 1) xs y d in (suc z.0, z.1, z.2, z.3, omega (arith, z.4), z.5))
    (Contains-append_cases (f n x) (each f (n + 1) xs) y c)

pub each_from_zero : {A B : Type 0} (f : ℕ → A → List B) (xs : List A) (y : B) → Contains (each f 0 xs) y → (i : ℕ) × (x : A)
    × (slice_get xs i ≡ Some x) × Contains (f i x) y
each_from_zero f xs y c = let z = each_from f 0 xs y c in (z.0, z.2, z.3, subst (λ j. Contains (f j z.2) y) (omega (arith, z.4)) z.5)

pub when_has : {A : Type 0} (b : Bool) (xs : List A) (x : A) → b ≡ true → Contains xs x → Contains (when b xs) x
when_has true xs x e c = c
when_has false xs x e c = absurd (false≢true e)

pub when_from : {A : Type 0} (b : Bool) (xs : List A) (x : A) → Contains (when b xs) x → (b ≡ true) × Contains xs x
when_from true xs x c = (refl, c)
when_from false xs x c = absurd (omega (arith, c.1))

choose_has : {A : Type 0} (xs ys : List A) (x : A) (b : Bool) → Contains xs x → Contains ys x → Contains (if b then xs else ys) x
choose_has xs ys x true c d = c
choose_has xs ys x false c d = d

choose_from : {A : Type 0} (xs ys : List A) (x : A) (b : Bool) → Contains (if b then xs else ys) x → Contains xs x ⊎ Contains ys x
choose_from xs ys x true c = inl c
choose_from xs ys x false c = inr c

put_here : {A : Type 0} (at : A → ℕ) (x : A) (xs : List A) → Contains (put_in at x xs) x
put_here at x [] = first x []
put_here at x (z ∷ zs) = choose_has _ _ _ (nat_lt (at z) (at x)) (more x z (put_in at x zs) (put_here at x zs)) (first x (z ∷ zs))

put_rest : {A : Type 0} (at : A → ℕ) (x : A) (xs : List A) (y : A) → Contains xs y → Contains (put_in at x xs) y
put_rest at x [] y c = absurd (omega (arith, c.1))
put_rest at x (z ∷ zs) y (zero, lt, e) = choose_has _ _ _ (nat_lt (at z) (at x)) (0, omega arith, e) (more y x (z ∷ zs) (0, omega arith, e))
put_rest at x (z ∷ zs) y (suc k, lt, e) =
    let c : Contains zs y = (k, omega (arith, lt), e) in choose_has _ _ _ (nat_lt (at z) (at x)) (more y z (put_in at x zs) (put_rest at x zs y c))
    (more y x (z ∷ zs) (more y z zs c))

put_from : {A : Type 0} (at : A → ℕ) (x : A) (xs : List A) (y : A) → Contains (put_in at x xs) y → (x ≡ y) ⊎ Contains xs y
put_from at x [] y c = contains_cases x [] y c
put_from at x (z ∷ zs) y c =
    ⊎_elim (λ d. ⊎_elim (λ e. inr (0, omega arith, e)) (λ d. ⊎_elim (λ e. inl e) (λ d. inr (more y z zs d)) (put_from at x zs y d))
    (contains_cases z (put_in at x zs) y d)) (λ d. contains_cases x (z ∷ zs) y d)
    (choose_from (z ∷ put_in at x zs) (x ∷ (z ∷ zs)) y (nat_lt (at z) (at x)) c)

pub place_has : {A : Type 0} (at : A → ℕ) (xs : List A) (y : A) → Contains xs y → Contains (by_place at xs) y
place_has at [] y c = c
place_has at (x ∷ xs) y (zero, lt, e) = subst (λ z. Contains (put_in at x (by_place at xs)) z) e (put_here at x (by_place at xs))
place_has at (x ∷ xs) y (suc k, lt, e) = put_rest at x (by_place at xs) y (place_has at xs y (k, omega (arith, lt), e))

pub place_from : {A : Type 0} (at : A → ℕ) (xs : List A) (y : A) → Contains (by_place at xs) y → Contains xs y
place_from at [] y c = c
place_from at (x ∷ xs) y c = ⊎_elim (λ e. (0, omega arith, e)) (λ d. more y x xs (place_from at xs y d)) (put_from at x (by_place at xs) y c)

end_passes : {A : Type 0} (f : A → Bool) (xs : List A) (y : A) → f y ≡ true → list_any f (xs ++ y ∷ []) ≡ true
end_passes f xs y e = list_any-append f xs (y ∷ []) ∙ or_right (list_any f xs) (list_any f (y ∷ [])) (or_left (f y) false e)

front_passes : {A : Type 0} (f : A → Bool) (xs : List A) (y : A) → list_any f xs ≡ true → list_any f (xs ++ y ∷ []) ≡ true
front_passes f xs y e = list_any-append f xs (y ∷ []) ∙ or_left (list_any f xs) (list_any f (y ∷ [])) e

-- the first of each key
module _ {A K : Type 0} (eq : K → K → Bool) (exact : (x y : K) → eq x y ≡ true → x ≡ y) (alike : (x : K) → eq x x ≡ true) (key : A → K) where
  inserted : (ks : List K) (k : K) → list_any (eq k) (insert_key eq ks k) ≡ true
  inserted ks k = go (list_any (eq k) ks) refl
    where
      go : (b : Bool) → list_any (eq k) ks ≡ b → list_any (eq k) (if b then ks else ks ++ k ∷ []) ≡ true
      go true e = e
      go false e = end_passes (eq k) ks k (alike k)

  still_in : (ks : List K) (k q : K) → list_any (eq q) ks ≡ true → list_any (eq q) (insert_key eq ks k) ≡ true
  still_in ks k q h = go (list_any (eq k) ks)
    where
      go : (b : Bool) → list_any (eq q) (if b then ks else ks ++ k ∷ []) ≡ true
      go true = h
      go false = front_passes (eq q) ks k h

  head_cases : (b : Bool) (xs : List A) (y x : A) → Contains (if b then xs else y ∷ xs) x → Contains xs x ⊎ ((b ≡ false) × (y ≡ x))
  head_cases true xs y x c = inl c
  head_cases false xs y x c = ⊎_elim (λ e. inr (refl, e)) (λ d. inl d) (contains_cases y xs x c)

  once_after_from : (seen : List K) (xs : List A) (x : A) → Contains (once_after eq key seen xs) x → Contains xs x
  once_after_from seen [] x c = c
  once_after_from seen (y ∷ ys) x c =
      ⊎_elim (λ d. more x y ys (once_after_from (insert_key eq seen (key y)) ys x d)) (λ p. (0, omega arith, p.1))
      (head_cases (list_any (eq (key y)) seen) (once_after eq key (insert_key eq seen (key y)) ys) y x c)

  pub once_from : (xs : List A) (x : A) → Contains (once eq key xs) x → Contains xs x
  once_from xs x c = once_after_from [] xs x c

  unseen : (seen : List K) (xs : List A) (x : A) → Contains (once_after eq key seen xs) x → list_any (eq (key x)) seen ≡ true → ⊥
  unseen seen [] x c h = absurd (omega (arith, c.1))
  unseen seen (y ∷ ys) x c h =
      ⊎_elim (λ d. unseen (insert_key eq seen (key y)) ys x d (still_in seen (key y) (key x) h))
      (λ p. false≢true (sym p.0 ∙ subst (λ z. list_any (eq (key z)) seen ≡ true) (sym p.1) h))
      (head_cases (list_any (eq (key y)) seen) (once_after eq key (insert_key eq seen (key y)) ys) y x c)

  AreApart : List A → Type 0
  AreApart xs = (i j : ℕ) (x y : A) → slice_get xs i ≡ Some x → slice_get xs j ≡ Some y → key x ≡ key y → i ≡ j

  head_apart : (b : Bool) (xs : List A) (y : A) → AreApart xs → ((x : A) → Contains xs x → key x ≡ key y → ⊥) → AreApart (if b then xs else y ∷ xs)
  unfolding AreApart
  head_apart true xs y a h i j x z d e k = a i j x z d e k
  head_apart false xs y a h zero zero x z d e k = refl
  head_apart false xs y a h zero (suc j) x z d e k = absurd (h z (contains_at xs j z e) (sym k ∙ ap key (sym (same_Some y x d))))
  head_apart false xs y a h (suc i) zero x z d e k = absurd (h x (contains_at xs i x d) (k ∙ ap key (sym (same_Some y z e))))
  head_apart false xs y a h (suc i) (suc j) x z d e k = ap suc (a i j x z d e k)

  once_after_apart : (seen : List K) (xs : List A) → AreApart (once_after eq key seen xs)
  unfolding AreApart
  once_after_apart seen [] = λ i j x y d e k. absurd (cc)
  once_after_apart seen (x ∷ xs) =
      let rest = once_after eq key (insert_key eq seen (key x)) xs in
      head_apart (list_any (eq (key x)) seen) rest x (once_after_apart (insert_key eq seen (key x)) xs)
      (λ z c k. unseen (insert_key eq seen (key x)) xs z c (subst (λ w. list_any (eq w) (insert_key eq seen (key x)) ≡ true) (sym k) (inserted seen (key x))))

  -- no two of them have one key
  pub once_apart : (xs : List A) (i j : ℕ) (x y : A) → slice_get (once eq key xs) i ≡ Some x → slice_get (once eq key xs) j ≡ Some y → key x ≡ key y → i ≡ j
  unfolding AreApart
  once_apart xs i j x y d e k = once_after_apart [] xs i j x y d e k

  Kept : List K → List A → A → Type 0
  Kept seen ys x = (list_any (eq (key x)) seen ≡ true) ⊎ ((z : A) × Contains ys z × (key z ≡ key x))

  insert_cases : (ks : List K) (k q : K) → list_any (eq q) (insert_key eq ks k) ≡ true → (list_any (eq q) ks ≡ true) ⊎ (q ≡ k)
  insert_cases ks k q e = go (list_any (eq k) ks) e
    where
      last : list_any (eq q) (ks ++ k ∷ []) ≡ true → (list_any (eq q) ks ≡ true) ⊎ (q ≡ k)
      last h = ⊎_elim (λ h. inl h) (λ h. ⊎_elim (λ g. inr (exact q k g)) (λ g. absurd (false≢true g)) (or_cases (eq q k) false h))
          (or_cases (list_any (eq q) ks) (list_any (eq q) (k ∷ [])) (sym (list_any-append (eq q) ks (k ∷ [])) ∙ h))

      go : (b : Bool) → list_any (eq q) (if b then ks else ks ++ k ∷ []) ≡ true → (list_any (eq q) ks ≡ true) ⊎ (q ≡ k)
      go true h = inl h
      go false h = last h

  kept_there : (b : Bool) (xs : List A) (y x : A) → (z : A) × Contains xs z × (key z ≡ key x) → (z : A) × Contains (if b then xs else y ∷ xs) z
      × (key z ≡ key x)
  kept_there true xs y x c = c
  kept_there false xs y x c = (c.0, more c.0 y xs c.1, c.2)

  kept_head : (seen : List K) (b : Bool) (xs : List A) (y : A) → list_any (eq (key y)) seen ≡ b → Kept seen (if b then xs else y ∷ xs) y
  unfolding Kept
  kept_head seen true xs y e = inl e
  kept_head seen false xs y e = inr (y, first y xs, refl)

  kept_as : (seen : List K) (ys : List A) (x y : A) → key y ≡ key x → Kept seen ys y → Kept seen ys x
  unfolding Kept
  kept_as seen ys x y e (inl h) = inl (subst (λ z. list_any (eq z) seen ≡ true) e h)
  kept_as seen ys x y e (inr z) = inr (z.0, z.1, z.2 ∙ e)

  once_kept : (seen : List K) (xs : List A) (x : A) → Contains xs x → Kept seen (once_after eq key seen xs) x
  unfolding Kept
  once_kept seen [] x c = absurd (omega (arith, c.1))
  once_kept seen (y ∷ ys) x (zero, lt, d) =
      kept_as seen _ x y (ap key d) (kept_head seen (list_any (eq (key y)) seen) (once_after eq key (insert_key eq seen (key y)) ys) y refl)
  once_kept seen (y ∷ ys) x (suc k, lt, d) =
      let rest = once_after eq key (insert_key eq seen (key y)) ys in
      let b = list_any (eq (key y)) seen in
      ⊎_elim (λ h. ⊎_elim (λ g. inl g) (λ e. kept_as seen _ x y (sym e) (kept_head seen b rest y refl)) (insert_cases seen (key y) (key x) h))
      (λ z. inr (kept_there b rest y x z)) (once_kept (insert_key eq seen (key y)) ys x (k, omega (arith, lt), d))

  -- and each key has one
  pub once_has : (xs : List A) (x : A) → Contains xs x → (z : A) × Contains (once eq key xs) z × (key z ≡ key x)
  unfolding Kept
  once_has xs x c = ⊎_elim (λ h. absurd (false≢true h)) (λ h. h) (once_kept [] xs x c)

pub position_there : {A : Type 0} (p : A → Bool) (xs : List A) (y : A) → Contains xs y → p y ≡ true → (i : ℕ) × (position p xs ≡ Some i)
position_there p xs y c e = let z = at_contains xs y c in passes-position p xs z.0 y z.1 e

-- the number of a key among those of a list of each once
module _ {A K : Type 0} (eq : K → K → Bool) (exact : (x y : K) → eq x y ≡ true → x ≡ y) (alike : (x : K) → eq x x ≡ true) (key : A → K) (xs : List A) where
  pub number_at : (i : K) (n : ℕ) → position (eq i) (map key (once eq key xs)) ≡ Some n → (x : A) × (slice_get (once eq key xs) n ≡ Some x) × (key x ≡ i)
  number_at i n e =
      let z = position-passes (eq i) (map key (once eq key xs)) n e in
      let w = map_at key (once eq key xs) n z.0 z.1 in
      (w.0, w.1, w.2 ∙ sym (exact i z.0 z.2))

  pub number_there : (x : A) → Contains xs x → (n : ℕ) × (position (eq (key x)) (map key (once eq key xs)) ≡ Some n)
  number_there x c =
      let z = once_has eq exact alike key xs x c in
      position_there (eq (key x)) (map key (once eq key xs)) (key z.0) (map_has key (once eq key xs) z.0 z.1)
      (subst (λ w. eq (key x) w ≡ true) (sym z.2) (alike (key x)))

  pub number_back : (n : ℕ) (x : A) → slice_get (once eq key xs) n ≡ Some x → position (eq (key x)) (map key (once eq key xs)) ≡ Some n
  number_back n x e =
      let z = number_there x (once_from eq exact alike key xs x (contains_at (once eq key xs) n x e)) in
      let w = number_at (key x) z.0 z.1 in
      z.1 ∙ ap Some (once_apart eq exact alike key xs z.0 n w.0 x w.1 e w.2)

  pub number_raw : (n : ℕ) (x : A) → slice_get (once eq key xs) n ≡ Some x → Contains xs x
  number_raw n x e = once_from eq exact alike key xs x (contains_at (once eq key xs) n x e)
