use Rattle.std.proofs.Common.{◌≡◌, ◌≢◌, ◌⊎◌, inl, inr, ⊎_elim, ℕ, ◌==◌, Bool, true, false, ◌&&◌, ◌||◌, List, [], ◌∷◌, refl, sym, ◌∙◌, subst}
use Rattle.std.proofs.lemmas.Bool.{cases_eq, and_parts, or_cases, or_left, or_right, eqb-true}
use Rattle.kaba_base.specs.declared.NodeId.{NodeId}
use Rattle.kaba_bits.specs.Sets.{bit, row}
use Rattle.kaba_order.specs.Orders.{is_among, has_any, any_has}

-- a row that has a node of the list has some
pub has_any_among : (r : List Bool) (set : List NodeId) (m : ℕ) → is_among set m ≡ true → bit r m ≡ true → has_any r set ≡ true
unfolding has_any
has_any_among r [] m h k = h
has_any_among r (s ∷ set) m h k =
    ⊎_elim
    (λ e. or_left (bit r s.0) (has_any r set) (subst (λ j. bit r j ≡ true) (eqb-true m s.0 e) k))
    (λ later. or_right (bit r s.0) (has_any r set) (has_any_among r set m later k))
    (or_cases (m == s.0) (is_among set m) h)

pub any_has_among : (rows : List (List Bool)) (set : List NodeId) (m b : ℕ) → is_among set m ≡ true → bit (row rows m) b ≡ true → any_has rows set b ≡ true
unfolding any_has
any_has_among rows [] m b h k = h
any_has_among rows (s ∷ set) m b h k =
    ⊎_elim
    (λ e. or_left (bit (row rows s.0) b) (any_has rows set b) (subst (λ j. bit (row rows j) b ≡ true) (eqb-true m s.0 e) k))
    (λ later. or_right (bit (row rows s.0) b) (any_has rows set b) (any_has_among rows set m b later k))
    (or_cases (m == s.0) (is_among set m) h)

absorbs : (x y : Bool) → (x ≡ true → y ≡ true) → (x || y) ≡ y
absorbs true y h = sym (h refl)
absorbs false y h = refl

twice : (x y : Bool) → ((x || y) || (true && (x || y))) ≡ (x || (true && y))
twice true y = refl
twice false true = refl
twice false false = refl

-- gathered in one row, and that row spread: the closed pairs
module _ (old g s : List (List Bool)) (set : List NodeId) (low : List Bool) (m : ℕ) (among : is_among set m ≡ true) (reflexive : bit (row old m) m ≡ true)
    (is : (a : ℕ) → bit low a ≡ has_any (row old a) set)
    (others : (k : ℕ) → k ≢ m → row g k ≡ row old k)
    (gathered : (b : ℕ) → bit (row g m) b ≡ (bit (row old m) b || any_has old set b))
    (rows : (a b : ℕ) → bit (row s a) b ≡ (bit (row g a) b || (bit low a && bit (row g m) b))) where
  pub closed_rows : (a b : ℕ) → bit (row s a) b ≡ (bit (row old a) b || (has_any (row old a) set && any_has old set b))
  closed_rows a b =
      ⊎_elim
      (λ e. subst (λ j. bit (row s j) b ≡ (bit (row old j) b || (has_any (row old j) set && any_has old set b))) (sym e)
      (rows m b ∙ rw (gathered b, is m, has_any_among (row old m) set m among reflexive) (twice (bit (row old m) b) (any_has old set b))))
      (λ ne. rows a b
      ∙ rw (others a ne, gathered b, is a, absorbs (bit (row old m) b) (any_has old set b) (any_has_among old set m b among)) refl)
      (cases_eq a m)

  -- a row that has some node of the list had one before
  pub had_some : (a t : ℕ) → is_among set t ≡ true → bit (row s a) t ≡ true → bit low a ≡ true
  had_some a t has h =
      is a
      ∙ ⊎_elim
      (λ before. has_any_among (row old a) set t has before)
      (λ fresh. (and_parts (has_any (row old a) set) (any_has old set t) fresh).0)
      (or_cases (bit (row old a) t) (has_any (row old a) set && any_has old set t) (sym (closed_rows a t) ∙ h))

  -- each pair is an old one, or leads through the gathered row
  pub came : (a b : ℕ) → bit (row s a) b ≡ true → (bit (row old a) b ≡ true) ⊎ ((bit low a ≡ true) × (bit (row g m) b ≡ true))
  came a b h =
      ⊎_elim
      (λ k. ⊎_elim
      (λ e. inr (
        subst (λ j. bit low j ≡ true) (sym e) (is m ∙ has_any_among (row old m) set m among reflexive),
        subst (λ j. bit (row g j) b ≡ true) e k,
      ))
      (λ ne. inl (subst (λ r. bit r b ≡ true) (others a ne) k))
      (cases_eq a m))
      (λ k. inr (and_parts (bit low a) (bit (row g m) b) k))
      (or_cases (bit (row g a) b) (bit low a && bit (row g m) b) (sym (rows a b) ∙ h))
