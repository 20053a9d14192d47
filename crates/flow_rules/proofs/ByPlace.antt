-- Lists in the order of places: they rise, and what is picked out of one is in order too.
use Rattle.std.proofs.Common.{◌≡◌, ℕ, ◌≤◌, true, false, List, [], ◌∷◌, ◌++◌, refl, sym, ap, ◌∙◌, subst, arith, ⊎_elim, ltb-true, ltb-false}
use Rattle.std.specs.Prelude.{◌⊎◌, nat_lt, cond, map}
use Rattle.std.specs.List.{flat_map}
use Rattle.flow_rules.specs.Ordered.{put_in, by_place}

module _ {A : Type 0} (at : A → ℕ) where
  -- no element stands before n
  abbrev pub Low : ℕ → List A → Type 0
  Low n [] = Unit {0}
  Low n (z ∷ zs) = (n ≤ at z) × Low n zs

  abbrev pub Rising : List A → Type 0
  Rising [] = Unit {0}
  Rising (z ∷ zs) = Low (at z) zs × Rising zs

  pub lower : (m n : ℕ) (zs : List A) → m ≤ n → Low n zs → Low m zs
  lower m n [] h l = tt
  lower m n (z ∷ zs) h l = (omega (arith, h, l.0), lower m n zs h l.1)

  -- an element put in
  pub low_in : (n : ℕ) (a : A) (zs : List A) → n ≤ at a → Low n zs → Low n (put_in at a zs)
  low_in n a [] h l = (h, tt)
  low_in n a (z ∷ zs) h l =
      elim (nat_lt (at z) (at a)) as (λ b. Low n (cond b (z ∷ put_in at a zs) (a ∷ (z ∷ zs)))) [ true ↦ (l.0, low_in n a zs h l.1) | false ↦ (h, l) ]

  pub rising_in : (a : A) (zs : List A) → Rising zs → Rising (put_in at a zs)
  rising_in a [] r = (tt, tt)
  rising_in a (z ∷ zs) r =
      elim (nat_lt (at z) (at a)) as (λ b. nat_lt (at z) (at a) ≡ b → Rising (cond b (z ∷ put_in at a zs) (a ∷ (z ∷ zs)))) [
        | true ↦ λ e. (low_in (at z) a zs (let h = ltb-true (at z) (at a) e in omega (arith, h)) r.0, rising_in a zs r.1)
        | false ↦ λ e. let le : at a ≤ at z = ltb-false (at z) (at a) e in ((le, lower (at a) (at z) zs le r.0), r)
      ] refl

  pub rising_all : (xs : List A) → Rising (by_place at xs)
  rising_all [] = tt
  rising_all (x ∷ xs) = rising_in x (by_place at xs) (rising_all xs)

-- what is made of each item, at its place
module _ {A B : Type 0} (at : B → ℕ) (f : A → B) where
  put_mapped : (x : A) (ys : List A) → put_in at (f x) (map f ys) ≡ map f (put_in (λ y. at (f y)) x ys)
  put_mapped x [] = refl
  put_mapped x (y ∷ ys) =
      elim (nat_lt (at (f y)) (at (f x))) as (λ b. cond b (f y ∷ put_in at (f x) (map f ys)) (f x ∷ (f y ∷ map f ys))
      ≡ map f (cond b (y ∷ put_in (λ z. at (f z)) x ys) (x ∷ (y ∷ ys)))) [ true ↦ ap (λ l. f y ∷ l) (put_mapped x ys) | false ↦ refl ]

  pub place_mapped : (xs : List A) → by_place at (map f xs) ≡ map f (by_place (λ y. at (f y)) xs)
  place_mapped [] = refl
  place_mapped (x ∷ xs) = ap (put_in at (f x)) (place_mapped xs) ∙ put_mapped x (by_place (λ y. at (f y)) xs)

-- an item gives nothing, or one thing at its place
module _ {A B : Type 0} (at : A → ℕ) (to : B → ℕ) (g : A → List B) where
  unfoldable pub AtMostOne : A → Type 0
  AtMostOne x = (g x ≡ []) ⊎ ((y : B) × (g x ≡ y ∷ []) × (to y ≡ at x))

  module _ (one : (x : A) → AtMostOne x) where
    low_picked : (n : ℕ) (zs : List A) → Low at n zs → Low to n (flat_map g zs)
    unfolding AtMostOne
    low_picked n [] l = tt
    low_picked n (z ∷ zs) l = ⊎_elim
        (λ e. subst (λ w. Low to n (w ++ flat_map g zs)) (sym e) (low_picked n zs l.1))
        (λ e. subst (λ w. Low to n (w ++ flat_map g zs)) (sym e.1) (subst (λ w. n ≤ w) (sym e.2) l.0, low_picked n zs l.1))
        (one z)

    put_first : (y : B) (ws : List B) → Low to (to y) ws → put_in to y ws ≡ y ∷ ws
    put_first y [] l = refl
    put_first y (w ∷ ws) l =
        elim (nat_lt (to w) (to y)) as (λ b. nat_lt (to w) (to y) ≡ b → cond b (w ∷ put_in to y ws) (y ∷ (w ∷ ws)) ≡ y ∷ (w ∷ ws)) [
          | true ↦ λ e. absurd (let h = ltb-true (to w) (to y) e in omega (arith, h, l.0))
          | false ↦ λ e. refl
        ] refl

    -- nothing is picked of an item
    put_left : (x : A) (ys : List A) → g x ≡ [] → flat_map g (put_in at x ys) ≡ flat_map g ys
    put_left x [] e = ap (λ w. w ++ []) e
    put_left x (y ∷ ys) e =
        elim (nat_lt (at y) (at x)) as (λ b. flat_map g (cond b (y ∷ put_in at x ys) (x ∷ (y ∷ ys))) ≡ flat_map g (y ∷ ys)) [
          | true ↦ ap (λ l. g y ++ l) (put_left x ys e)
          | false ↦ ap (λ w. w ++ flat_map g (y ∷ ys)) e
        ]

    past_one : (z x : A) (y : B) (rest : List B) → nat_lt (at z) (at x) ≡ true → to y ≡ at x → put_in to y (g z ++ rest) ≡ g z ++ put_in to y rest
    unfolding AtMostOne
    past_one z x y rest h e = ⊎_elim
        (λ d. subst (λ w. put_in to y (w ++ rest) ≡ w ++ put_in to y rest) (sym d) refl)
        (λ d. subst (λ w. put_in to y (w ++ rest) ≡ w ++ put_in to y rest) (sym d.1)
        (ap (λ b. cond b (d.0 ∷ put_in to y rest) (y ∷ (d.0 ∷ rest))) (ap (λ n. nat_lt n (to y)) d.2 ∙ ap (nat_lt (at z)) e ∙ h)))
        (one z)

    put_picked : (x : A) (y : B) (ys : List A) → Rising at ys → g x ≡ y ∷ [] → to y ≡ at x → put_in to y (flat_map g ys) ≡ flat_map g (put_in at x ys)
    put_picked x y [] r e d = sym (ap (λ w. w ++ []) e)
    put_picked x y (z ∷ zs) r e d =
        elim (nat_lt (at z) (at x)) as (λ b. nat_lt (at z) (at x) ≡ b → put_in to y (flat_map g (z ∷ zs))
        ≡ flat_map g (cond b (z ∷ put_in at x zs) (x ∷ (z ∷ zs)))) [
          | true ↦ λ h. past_one z x y (flat_map g zs) h d ∙ ap (λ l. g z ++ l) (put_picked x y zs r.1 e d)
          | false ↦ λ h. let le : at x ≤ at z = ltb-false (at z) (at x) h in
              put_first y (flat_map g (z ∷ zs)) (subst (λ n. Low to n (flat_map g (z ∷ zs))) (sym d) (low_picked (at x) (z ∷ zs)
              (le, lower at (at x) (at z) zs le r.0)))
              ∙ sym (ap (λ w. w ++ flat_map g (z ∷ zs)) e)
        ] refl

    -- what is picked of a list, in order, is picked of the list in order
    pub place_picked : (xs : List A) → by_place to (flat_map g xs) ≡ flat_map g (by_place at xs)
    unfolding AtMostOne
    place_picked [] = refl
    place_picked (x ∷ xs) = ⊎_elim
        (λ e. ap (λ w. by_place to (w ++ flat_map g xs)) e ∙ place_picked xs ∙ sym (put_left x (by_place at xs) e))
        (λ e. ap (λ w. by_place to (w ++ flat_map g xs)) e.1 ∙ ap (put_in to e.0) (place_picked xs)
        ∙ put_picked x e.0 (by_place at xs) (rising_all at xs) e.1 e.2)
        (one x)
