-- The numbers that are in just one of two sets.
use Rattle.std.proofs.Common.{◌≡◌, ⊎_elim, ℕ, ◌+◌, ◌<◌, ◌≤◌, Bool, true, false, ◌&&◌, ◌||◌, not, List, length, set, refl, sym, ap, ◌∙◌, subst, arith}
use Rattle.std.proofs.lemmas.Bool.{cases_lt, cases_eq, or_right}
use Rattle.std.proofs.lemmas.List.{get_or-set_same, get_or-set_other, get_or_past}
use Rattle.kaba_bits.specs.Sets.{bit, IsEmpty, IsNoneFrom, IsLeastFrom}
use Rattle.kaba_order.specs.Orders.{differ}

no_more : (x y : Bool) → y ≡ false → x ≡ (x || y)
no_more true y e = refl
no_more false y e = sym e

-- those below a number that pass a test were added to a set, and no others
pub record AreAdded (p : ℕ → Bool) (old : List Bool) (at : ℕ) (new : List Bool) : Type 0 where
  pub done : (b : ℕ) → b < at → bit new b ≡ (bit old b || p b)
  pub rest : (b : ℕ) → at ≤ b → bit new b ≡ bit old b

pub added_next : (p : ℕ → Bool) (old now : List Bool) (at i : ℕ) → AreAdded p old at now → IsLeastFrom p at i → i < length now
    → AreAdded p old (i + 1) (set now i true)
added_next p old now at i x next lt = record {
  done = λ b low. ⊎_elim
      (λ e. subst (λ k. bit (set now i true) k ≡ (bit old k || p k)) (sym e)
      (get_or-set_same now i true false lt ∙ sym (or_right (bit old i) (p i) next.holds)))
      (λ ne. get_or-set_other now i b true false ne
      ∙ ⊎_elim (λ before. x.done b before) (λ after. x.rest b after ∙ no_more (bit old b) (p b) (next.least b after (omega (arith, low, ne)))) (cases_lt b at))
      (cases_eq b i);
  rest = λ b high.
      let low : at ≤ i = next.low in
      get_or-set_other now i b true false (λ e. omega (arith, e, high)) ∙ x.rest b (omega (arith, low, high));
}

pub added_all : (p : ℕ → Bool) (old now : List Bool) (at n : ℕ) → AreAdded p old at now → IsNoneFrom p at n → ((b : ℕ) → n ≤ b → p b ≡ false)
    → (b : ℕ) → bit now b ≡ (bit old b || p b)
added_all p old now at n x none past b =
    ⊎_elim
    (λ before. x.done b before)
    (λ after. x.rest b after ∙ no_more (bit old b) (p b) (⊎_elim (λ lt. none b after lt) (λ ge. past b ge) (cases_lt b n)))
    (cases_lt b at)

-- a number past the width of a set is not in it, whatever else is asked
pub none_past : (row other : List Bool) (n : ℕ) → length row ≡ n → (b : ℕ) → n ≤ b → (bit row b && not (bit other b)) ≡ false
none_past row other n len b past = ap (λ x. x && not (bit other b)) (get_or_past row b false (omega (arith, len, past)))

apart : (x y : Bool) → ((false || (x && not y)) || (y && not x)) ≡ differ x y
apart true true = refl
apart true false = refl
apart false true = refl
apart false false = refl

-- what is in the first alone and then what is in the second alone is added to the empty set
pub in_just_one : (a b empty one both : List Bool) → IsEmpty empty → ((i : ℕ) → bit one i ≡ (bit empty i || (bit a i && not (bit b i))))
    → ((i : ℕ) → bit both i ≡ (bit one i || (bit b i && not (bit a i)))) → (i : ℕ) → bit both i ≡ differ (bit a i) (bit b i)
in_just_one a b empty one both e f g i =
    g i ∙ (ap (λ x. x || (bit b i && not (bit a i))) (f i ∙ ap (λ x. x || (bit a i && not (bit b i))) (e i)) ∙ apart (bit a i) (bit b i))
