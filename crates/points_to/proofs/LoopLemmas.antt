-- Loops: one element on, and at their end.
use Rattle.std.proofs.Common.{◌≡◌, ℕ, ◌+◌, ◌<◌, ◌≤◌, Bool, true, false, List, length, get_or, Option, Some, None, MatchOption, arith, subst, ⊎_elim}
use Rattle.std.specs.Bool.{OnFalse}
use Rattle.std.specs.List.{All, AllWithin}
use Rattle.std.specs.Option.{IfSome}
use Rattle.std.proofs.lemmas.Bool.{cases_lt}
use Rattle.std.proofs.lemmas.List.{get_or_default, get_or_past}
use Rattle.std.proofs.lemmas.List.Elements.{AllWithin-more}
use Rattle.kaba_bits.specs.Sets.{bit, IsNoneFrom, IsLeastFrom}

-- a loop over a list, one element on, where what held still holds
pub within_more : {X : Type 0} (P Q : X → Type 0) (xs : List X) (k : ℕ) (d : X) → k < length xs → ((x : X) → P x → Q x) → AllWithin P xs 0 k
    → Q (get_or xs k d) → AllWithin Q xs 0 (k + 1)
within_more P Q xs k d lt f before here =
    AllWithin-more Q xs 0 k (λ i e low below. f (get_or xs i e) (before i e low below)) (λ e. subst Q (get_or_default xs k d e lt) here)

pub within_all : {X : Type 0} (P : X → Type 0) (xs : List X) (i : ℕ) → length xs ≤ i → AllWithin P xs 0 i → All P xs
within_all P xs i le h = λ k d lt. h k d (omega arith) (omega arith)

-- a loop over a list, at its end
pub all_end : {X : Type 0} (P : X → Type 0) (xs : List X) (i : ℕ) (g : Bool) → length xs ≤ i → OnFalse g (AllWithin P xs 0 i) → OnFalse g (All P xs)
all_end P xs i true le h = tt
all_end P xs i false le h = within_all P xs i le h

-- the least number below n, from one on, that passes a test, by what is asked of it
module _ (p : ℕ → Bool) (n w at : ℕ) (len : n ≡ w) where
  pub least_low : (found : Option ℕ) → MatchOption found (IsNoneFrom p at n) (IsLeastFrom p at) → IfSome found (λ s. at ≤ s)
  least_low None x = tt
  least_low (Some s) x = x.low

  pub least_holds : (P : ℕ → Type 0) → ((s : ℕ) → p s ≡ true → P s) → (found : Option ℕ) → MatchOption found (IsNoneFrom p at n) (IsLeastFrom p at)
      → IfSome found P
  least_holds P f None x = tt
  least_holds P f (Some s) x = f s x.holds

  pub least_none : (found : Option ℕ) → MatchOption found (IsNoneFrom p at n) (IsLeastFrom p at)
      → MatchOption found (IsNoneFrom p at w) (λ s. IsNoneFrom p at s)
  least_none None x = λ k low lt. x k low (omega (arith, lt, len))
  least_none (Some s) x = x.least

-- a pass over the numbers below w by the least that passes a test
module _ (P : ℕ → Type 0) (p : ℕ → Bool) (at : ℕ) (out : (k : ℕ) → p k ≡ false → P k) where
  pub pass_to : (s : ℕ) (g : Bool) → IsNoneFrom p at s → OnFalse g ((k : ℕ) → k < at → P k) → OnFalse g ((k : ℕ) → k < s → P k)
  pass_to s true none before = tt
  pass_to s false none before = λ k lt. ⊎_elim (λ b. before k b) (λ past. out k (none k past lt)) (cases_lt k at)

  pub pass_all : (w : ℕ) (g : Bool) → ((k : ℕ) → w ≤ k → P k) → IsNoneFrom p at w → OnFalse g ((k : ℕ) → k < at → P k) → OnFalse g ((k : ℕ) → P k)
  pass_all w true rest none before = tt
  pass_all w false rest none before = λ k.
      ⊎_elim (λ b. before k b) (λ past. ⊎_elim (λ lt. out k (none k past lt)) (λ ge. rest k ge) (cases_lt k w)) (cases_lt k at)

-- the same over a set
module _ (P : ℕ → Type 0) (set : List Bool) (at : ℕ) (out : (k : ℕ) → bit set k ≡ false → P k) where
  pub skip_to : (s : ℕ) (g : Bool) → IsNoneFrom (bit set) at s → OnFalse g ((k : ℕ) → k < at → P k) → OnFalse g ((k : ℕ) → k < s → P k)
  skip_to = pass_to P (bit set) at out

  pub skip_all : (w : ℕ) (g : Bool) → length set ≡ w → IsNoneFrom (bit set) at w → OnFalse g ((k : ℕ) → k < at → P k) → OnFalse g ((k : ℕ) → P k)
  skip_all w g len = pass_all P (bit set) at out w g (λ k ge. out k (get_or_past set k false (omega (arith, len, ge))))
