-- Rows changed one after another, by a set of their numbers.
use Rattle.std.proofs.Common.{◌≡◌, ◌≢◌, ⊎_elim, ℕ, ◌+◌, ◌<◌, ◌≤◌, Bool, true, false, ◌==◌, ◌&&◌, ◌||◌, not, List, length, refl, sym, ap, ◌∙◌, subst, arith}
use Rattle.std.proofs.lemmas.Bool.{cases_lt, cases_eq, eqb-true, false≢true}
use Rattle.std.proofs.lemmas.List.{get_or_past}
use Rattle.kaba_bits.specs.Sets.{bit, row, GainsRow, IsNoneFrom, IsLeastFrom}

-- the rows below a number have what is wanted, and the others are as before
pub record AreChanged (f : ℕ → ℕ → Bool) (old : List (List Bool)) (at : ℕ) (new : List (List Bool)) : Type 0 where
  pub done : (k : ℕ) → k < at → (b : ℕ) → bit (row new k) b ≡ f k b
  pub rest : (k : ℕ) → at ≤ k → row new k ≡ row old k

-- where a row whose number is not in the set has what is wanted
module _ (low : List Bool) (f : ℕ → ℕ → Bool) (old now : List (List Bool)) (at : ℕ) (skips : (k : ℕ) → bit low k ≡ false → (b : ℕ) → bit (row old k) b ≡ f k b)
    (x : AreChanged f old at now) where
  pub changed_next : (new : List (List Bool)) (a : ℕ) → IsLeastFrom (bit low) at a → ((k : ℕ) → k ≢ a → row new k ≡ row now k)
      → ((b : ℕ) → bit (row new a) b ≡ f a b) → AreChanged f old (a + 1) new
  changed_next new a next others here = record {
    done = λ k lt b. ⊎_elim
        (λ e. subst (λ j. bit (row new j) b ≡ f j b) (sym e) (here b))
        (λ ne. ap (λ r. bit r b) (others k ne)
        ∙ ⊎_elim
        (λ before. x.done k before b)
        (λ after. ap (λ r. bit r b) (x.rest k after) ∙ skips k (next.least k after (omega (arith, lt, ne))) b)
        (cases_lt k at))
        (cases_eq k a);
    rest = λ k high. let from : at ≤ a = next.low in others k (λ e. omega (arith, e, high)) ∙ x.rest k (omega (arith, from, high));
  }

  pub changed_all : IsNoneFrom (bit low) at (length low) → (k b : ℕ) → bit (row now k) b ≡ f k b
  changed_all none k b =
      ⊎_elim
      (λ before. x.done k before b)
      (λ after. ap (λ r. bit r b) (x.rest k after)
      ∙ skips k (⊎_elim (λ lt. none k after lt) (λ ge. get_or_past low k false ge) (cases_lt k (length low))) b)
      (cases_lt k at)

-- one row was added to each row of which a set has the number
abbrev pub spread_bit : List (List Bool) → List Bool → ℕ → ℕ → ℕ → Bool
spread_bit old low p k b = bit (row old k) b || (bit low k && bit (row old p) b)

module _ (low : List Bool) (old : List (List Bool)) (p : ℕ) where
  pub spread_skips : (k : ℕ) → bit low k ≡ false → (b : ℕ) → bit (row old k) b ≡ spread_bit old low p k b
  spread_skips k e b = rw e (sym (or-false (bit (row old k) b)))
    where
      or-false : (x : Bool) → (x || false) ≡ x
      or-false true = refl
      or-false false = refl

  pub spread_here : (now new : List (List Bool)) (at a : ℕ) → AreChanged (spread_bit old low p) old at now → IsLeastFrom (bit low) at a
      → GainsRow now new a (row now p) → (b : ℕ) → bit (row new a) b ≡ spread_bit old low p a b
  spread_here now new at a x next gains b =
      gains.joined b
      ∙ rw (x.rest a next.low, next.holds) (ap (λ y. bit (row old a) b || y)
      (⊎_elim (λ before. x.done p before b ∙ absorbs (bit (row old p) b) (bit low p)) (λ after. ap (λ r. bit r b) (x.rest p after)) (cases_lt p at)))
    where
      absorbs : (x y : Bool) → (x || (y && x)) ≡ x
      absorbs true y = refl
      absorbs false true = refl
      absorbs false false = refl

-- a row that lacks a number is as it is without it
pub forget_skips : (low : List Bool) (old : List (List Bool)) (n : ℕ) → ((a : ℕ) → bit (row old a) n ≡ true → bit low a ≡ true)
    → (k : ℕ) → bit low k ≡ false → (b : ℕ) → bit (row old k) b ≡ (bit (row old k) b && not (b == n))
forget_skips low old n has k e b =
    lacks (bit (row old k) b) (b == n)
    (λ h is. false≢true (sym e ∙ has k (subst (λ x. bit (row old k) x ≡ true) (eqb-true b n is) h)))
  where
    lacks : (x y : Bool) → (x ≡ true → y ≡ true → ⊥) → x ≡ (x && not y)
    lacks true true h = absurd (h refl refl)
    lacks true false h = refl
    lacks false y h = refl
