-- A list in a strict order is fixed by what it has.
use Rattle.std.proofs.Common.{◌≡◌, ⊎_elim, inl, inr, ℕ, zero, suc, ◌<◌, ◌≤◌, List, [], ◌∷◌, length, map, get_or, refl, sym, ap, ◌∙◌, subst, arith, AllPairs}
use Rattle.std.specs.Prelude.{◌⊎◌, Contains}
use Rattle.std.proofs.lemmas.List.Kept.{AllPairs-from_increasing}
use Rattle.kaba_base.proofs.ListLemmas.{first}
use Rattle.kaba_bits.specs.Sets.{ListsBelow}

after : {A : Type 0} (x z : A) (xs : List A) → Contains xs z → Contains (x ∷ xs) z
after x z xs c = (suc c.0, omega (arith, c.1), c.2)

first_or_after : {A : Type 0} (x z : A) (xs : List A) → Contains (x ∷ xs) z → (x ≡ z) ⊎ Contains xs z
first_or_after x z xs (zero, lt, e) = inl e
first_or_after x z xs (suc k, lt, e) = inr (k, omega (arith, lt), e)

module _ {A : Type 0} (R : A → A → Type 0) (one_way : (x y : A) → R x y → R y x → ⊥) where
  before : (x z : A) (xs : List A) → AllPairs R (x ∷ xs) → Contains xs z → R x z
  before x z xs o c = subst (R x) c.2 (o 0 (suc c.0) z (omega arith) (omega (arith, c.1)))

  rest : (x : A) (xs : List A) → AllPairs R (x ∷ xs) → AllPairs R xs
  rest x xs o i j d ij lt = o (suc i) (suc j) d (omega (arith, ij)) (omega (arith, lt))

  same_first : (x y : A) (xs ys : List A) → AllPairs R (x ∷ xs) → AllPairs R (y ∷ ys) → Contains (y ∷ ys) x → Contains (x ∷ xs) y → x ≡ y
  same_first x y xs ys o p c d =
      ⊎_elim (λ e. sym e) (λ a. ⊎_elim (λ e. e) (λ b. absurd (one_way x y (before x y xs o b) (before y x ys p a))) (first_or_after x y xs d))
      (first_or_after y x ys c)

  -- what follows the first of one list follows the same first of the other
  follows : (x y z : A) (xs ys : List A) → x ≡ y → AllPairs R (x ∷ xs) → Contains xs z → Contains (y ∷ ys) z → Contains ys z
  follows x y z xs ys same o c d =
      ⊎_elim (λ e. let b : R x y = subst (R x) (sym e) (before x z xs o c) in absurd (one_way x y b (subst (λ u. R u x) same (subst (R x) (sym same) b))))
      (λ a. a) (first_or_after y z ys d)

  -- two lists in order with the same items are one
  pub same_ordered : (xs ys : List A) → AllPairs R xs → AllPairs R ys → ((z : A) → Contains xs z → Contains ys z)
      → ((z : A) → Contains ys z → Contains xs z) → xs ≡ ys
  same_ordered [] [] o p f g = refl
  same_ordered [] (y ∷ ys) o p f g = let c = g y (first y ys) in absurd (omega (arith, c.1))
  same_ordered (x ∷ xs) [] o p f g = let c = f x (first x xs) in absurd (omega (arith, c.1))
  same_ordered (x ∷ xs) (y ∷ ys) o p f g =
      let e = same_first x y xs ys o p (f x (first x xs)) (g y (first y ys)) in
      let more = same_ordered xs ys (rest x xs o) (rest y ys p) (λ z c. follows x y z xs ys e o c (f z (after x z xs c)))
      (λ z c. follows y x z ys xs (sym e) p c (g z (after y z ys c))) in
      λ i. e i ∷ more i

  -- a list in order is no longer than one in order that has its items
  pub no_longer : (xs ys : List A) → AllPairs R xs → AllPairs R ys → ((z : A) → Contains xs z → Contains ys z) → length xs ≤ length ys
  no_longer [] ys o p f = omega arith
  no_longer (x ∷ xs) [] o p f = let c = f x (first x xs) in absurd (omega (arith, c.1))
  no_longer (x ∷ xs) (y ∷ ys) o p f =
      ⊎_elim
      (λ e. let h = no_longer xs ys (rest x xs o) (rest y ys p) (λ z c. follows x y z xs ys (sym e) o c (f z (after x z xs c))) in omega (arith, h))
      (λ a.
      let beyond : (z : A) → Contains (x ∷ xs) z → Contains ys z =
      λ z c. ⊎_elim (λ e. subst (Contains ys) e a) (λ b. ⊎_elim (λ e. absurd (one_way x y (subst (R x) (sym e) (before x z xs o b)) (before y x ys p a)))
      (λ d. d) (first_or_after y z ys (f z c))) (first_or_after x z xs c) in
      let h = no_longer (x ∷ xs) ys o (rest y ys p) beyond in
      omega (arith, h))
      (first_or_after y x ys (f x (first x xs)))

-- a property has one list of the numbers below a bound
pub same_listed : (P : ℕ → Type 0) (n : ℕ) (xs ys : List ℕ) → ListsBelow P n xs → ListsBelow P n ys → xs ≡ ys
same_listed P n xs ys l m =
    same_ordered (λ a b. a < b) (λ a b h g. omega (arith, h, g)) xs ys (AllPairs-from_increasing xs l.rising) (AllPairs-from_increasing ys m.rising)
    (λ z c. (m.each z).1 ((l.each z).0 c)) (λ z c. (l.each z).1 ((m.each z).0 c))

-- lists of items that are made of what is in them are one where that is the same
pub same_inside : {A B : Type 0} (f : A → B) (make : B → A) → ((x : A) → make (f x) ≡ x) → (xs ys : List A) → map f xs ≡ map f ys → xs ≡ ys
same_inside {A} f make made xs ys e = sym (back xs) ∙ (ap (map make) e ∙ back ys)
  where
    back : (l : List A) → map make (map f l) ≡ l
    back [] = refl
    back (x ∷ l) = λ i. made x i ∷ back l i

-- two lists that give the same at each place give the same list
pub same_mapped : {A B : Type 0} (f : A → B) (xs ys : List A) → length xs ≡ length ys
    → ((k : ℕ) (d : A) → k < length xs → f (get_or xs k d) ≡ f (get_or ys k d)) → map f xs ≡ map f ys
same_mapped f [] [] len h = refl
same_mapped f [] (y ∷ ys) len h = absurd (omega (arith, len))
same_mapped f (x ∷ xs) [] len h = absurd (omega (arith, len))
same_mapped f (x ∷ xs) (y ∷ ys) len h =
    let e = h 0 x (omega arith) in
    let more = same_mapped f xs ys (omega (arith, len)) (λ k d lt. h (suc k) d (omega (arith, lt))) in
    λ i. e i ∷ more i
