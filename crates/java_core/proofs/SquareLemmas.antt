-- Rows as the values of a test of two numbers, and what the rows of a hierarchy say.
use Rattle.std.proofs.Common.{◌≡◌, ℕ, ◌<◌, ◌≤◌, ◌⊎◌, inl, inr, ⊎_elim, Bool, true, false, List, [], ◌∷◌, map, length, Option, Some, None, sym, ap, ◌∙◌, arith}
use Rattle.std.specs.Prelude.{slice_get, ◌↔◌, MatchOption}
use Rattle.std.specs.List.{range_with_len}
use Rattle.std.proofs.lemmas.Bool.{false≢true, eqb-true, cases_lt, false_from_ne_true}
use Rattle.std.proofs.lemmas.List.FromFn.{length-map-range_with_len, get_or-map-range_with_len, fill_by_all}
use Rattle.std.proofs.lemmas.Option.{slice_get-get_or, slice_get_past}
use Rattle.kaba_base.proofs.TestLemmas.{same_truth}
use Rattle.kaba_bits.specs.Sets.{bit, row, IsNoneFrom, IsLeastFrom}
use Rattle.kaba_bits.proofs.SetLemmas.{bit-below}
use Rattle.java_core.specs.Squares.{bit_in, row_in, is_above}
use Rattle.java_core.specs.Squares.{square, in_row, is_below, AreRows}
use Rattle.java_core.specs.Squares.{meet}
use Rattle.java_core.specs.Subtypes.{Share}
use Rattle.java_core.proofs.Meets.{meets, meet-stands}

value-at : {X : Type 0} (f : ℕ → X) (d : X) (n i : ℕ) → i < n → slice_get (map f (range_with_len 0 n)) i ≡ Some (f i)
value-at f d n i lt =
    slice_get-get_or (map f (range_with_len 0 n)) i d (omega (arith, length-map-range_with_len f 0 n, lt))
    ∙ ap Some (get_or-map-range_with_len f 0 n i i d lt (omega arith))

value-past : {X : Type 0} (f : ℕ → X) (n i : ℕ) → n ≤ i → slice_get (map f (range_with_len 0 n)) i ≡ None
value-past f n i le = slice_get_past (map f (range_with_len 0 n)) i (omega (arith, length-map-range_with_len f 0 n, le))

pub square-above : (n : ℕ) (f : ℕ → ℕ → Bool) (a b : ℕ) → a < n → b < n → is_above (square n f) a b ≡ f a b
unfolding square
square-above n f a b la lb = ap (λ o. row_in o b) (value-at (λ x. map (λ y. f x y) (range_with_len 0 n)) [] n a la)
    ∙ ap bit_in (value-at (λ y. f a y) true n b lb)

pub square-past : (n : ℕ) (f : ℕ → ℕ → Bool) (a b : ℕ) → (n ≤ a) ⊎ (n ≤ b) → is_above (square n f) a b ≡ false
unfolding square
square-past n f a b (inl le) = ap (λ o. row_in o b) (value-past (λ x. map (λ y. f x y) (range_with_len 0 n)) n a le)
square-past n f a b (inr le) = ⊎_elim
    (λ lt. ap (λ o. row_in o b) (value-at (λ x. map (λ y. f x y) (range_with_len 0 n)) [] n a lt) ∙ ap bit_in (value-past (λ y. f a y) n b le))
    (λ ge. ap (λ o. row_in o b) (value-past (λ x. map (λ y. f x y) (range_with_len 0 n)) n a ge))
    (cases_lt a n)

pub square-length : (n : ℕ) (f : ℕ → ℕ → Bool) → length (square n f) ≡ n
unfolding square
square-length n f = length-map-range_with_len (λ a. map (λ b. f a b) (range_with_len 0 n)) 0 n

pub square-within : (n : ℕ) (f : ℕ → ℕ → Bool) (a b : ℕ) → is_above (square n f) a b ≡ true → (a < n) × (b < n)
square-within n f a b e = (
  ⊎_elim (λ lt. lt) (λ ge. absurd (false≢true (sym (square-past n f a b (inl ge)) ∙ e))) (cases_lt a n),
  ⊎_elim (λ lt. lt) (λ ge. absurd (false≢true (sym (square-past n f a b (inr ge)) ∙ e))) (cases_lt b n),
)

row-same : (n : ℕ) (f g : ℕ → Bool) → ((b : ℕ) → b < n → f b ≡ g b) → map f (range_with_len 0 n) ≡ map g (range_with_len 0 n)
row-same n f g same = fill_by_all g (map f (range_with_len 0 n)) n true (length-map-range_with_len f 0 n)
    (λ k lt. get_or-map-range_with_len f 0 n k k true lt (omega arith) ∙ same k lt)

pub square-same : (n : ℕ) (f g : ℕ → ℕ → Bool) → ((a b : ℕ) → a < n → b < n → f a b ≡ g a b) → square n f ≡ square n g
unfolding square
square-same n f g same =
    let p : ℕ → List Bool = λ x. map (λ y. f x y) (range_with_len 0 n) in
    let q : ℕ → List Bool = λ x. map (λ y. g x y) (range_with_len 0 n) in
    fill_by_all q (map p (range_with_len 0 n)) n [] (length-map-range_with_len p 0 n)
    (λ k lt. get_or-map-range_with_len p 0 n k k [] lt (omega arith) ∙ row-same n (λ y. f k y) (λ y. g k y) (λ b lb. same k b lt lb))

-- the first bit of a row from a number on is the first type at or below the one whose row it is
pub next-in-row : (r : List Bool) (b from : ℕ) → 0 < length r → (o : Option ℕ)
    → MatchOption o (IsNoneFrom (bit r) from (length r)) (IsLeastFrom (bit r) from)
    → MatchOption o ((t : ℕ) → from ≤ t → in_row r t b ≡ false) (IsLeastFrom (λ t. in_row r t b) from)
next-in-row [] b from some o h = absurd (omega (arith, some))
next-in-row (x ∷ xs) b from some None h = λ t le. ⊎_elim (λ lt. h t le lt)
    (λ ge. false_from_ne_true (bit (x ∷ xs) t) (λ e. let k = bit-below (x ∷ xs) t e in omega (arith, k, ge))) (cases_lt t (length (x ∷ xs)))
next-in-row (x ∷ xs) b from some (Some i) h = h

-- ---- what a hierarchy says

module _ (n : ℕ) (rows self : List (List Bool)) (view : square n (is_below rows) ≡ self) where
  pub view-length : length self ≡ n
  view-length = ap length (sym view) ∙ square-length n (is_below rows)

  pub above-in : (a b : ℕ) → a < n → b < n → is_above self a b ≡ in_row (row rows b) a b
  above-in a b la lb = ap (λ z. is_above z a b) (sym view) ∙ square-above n (is_below rows) a b la lb

  pub above-past : (a b : ℕ) → (n ≤ a) ⊎ (n ≤ b) → is_above self a b ≡ false
  above-past a b le = ap (λ z. is_above z a b) (sym view) ∙ square-past n (is_below rows) a b le

  above-within : (a b : ℕ) → is_above self a b ≡ true → (a < n) × (b < n)
  above-within a b e = square-within n (is_below rows) a b (ap (λ z. is_above z a b) view ∙ e)

  pub meet-past : (a b : ℕ) → (n ≤ a) ⊎ (n ≤ b) → meet self a b ≡ false
  meet-past a b le = false_from_ne_true (meet self a b) (λ e. let w = meet-stands self a b e in past w.0 w.1 w.2 le)
    where
      past : (c : ℕ) → is_above self c a ≡ true → is_above self c b ≡ true → (n ≤ a) ⊎ (n ≤ b) → ⊥
      past c p q (inl ge) = let k = (above-within c a p).1 in omega (arith, k, ge)
      past c p q (inr ge) = let k = (above-within c b q).1 in omega (arith, k, ge)

  in-within : (r : List Bool) (c a : ℕ) → (length r ≡ 0) ⊎ (length r ≡ n) → a < n → in_row r c a ≡ true → c < n
  in-within [] c a w la e = let k = eqb-true c a e in omega (arith, k, la)
  in-within (x ∷ xs) c a (inl z) la e = absurd (omega (arith, z))
  in-within (x ∷ xs) c a (inr l) la e = let k = bit-below (x ∷ xs) c e in omega (arith, k, l)

  pub meet-shared : AreRows n rows → (a b : ℕ) → a < n → b < n → (t : Bool) → ((t ≡ true) ↔ Share (row rows a) (row rows b) a b) → t ≡ meet self a b
  meet-shared formed a b la lb t both = same_truth t (meet self a b)
      (λ e. let s = both.0 e in let lc = in-within (row rows a) s.0 a (formed.wide a) la s.1 in
      meets self s.0 a b (above-in s.0 a lc la ∙ s.1) (above-in s.0 b lc lb ∙ s.2))
      (λ e. let w = meet-stands self a b e in both.1 (
        w.0,
        sym (above-in w.0 a (above-within w.0 a w.1).0 la) ∙ w.1,
        sym (above-in w.0 b (above-within w.0 b w.2).0 lb) ∙ w.2,
      ))

  -- the first type from a number on that is at or below b is the first in the row of b
  pub next-shared : AreRows n rows → (b from : ℕ) → b < n → (o : Option ℕ)
      → MatchOption o ((t : ℕ) → from ≤ t → in_row (row rows b) t b ≡ false) (IsLeastFrom (λ t. in_row (row rows b) t b) from)
      → MatchOption o ((t : ℕ) → from ≤ t → is_above self t b ≡ false) (IsLeastFrom (λ t. is_above self t b) from)
  next-shared formed b from lb None none = λ t le. ⊎_elim (λ lt. above-in t b lt lb ∙ none t le) (λ ge. above-past t b (inl ge)) (cases_lt t n)
  next-shared formed b from lb (Some t) h =
      let lt = in-within (row rows b) t b (formed.wide b) lb h.holds in
      record {
        low = h.low;
        holds = above-in t b lt lb ∙ h.holds;
        least = λ k le less. above-in k b (omega (arith, less, lt)) lb ∙ h.least k le less;
      }
