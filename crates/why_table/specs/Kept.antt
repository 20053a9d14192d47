-- Mirror. The steps that a goal needs, and their new numbers.
use Rattle.std.specs.Prelude.{◌≡◌, ◌≢◌, ℕ, suc, zero, ◌+◌, ◌<◌, ◌≤◌, ◌⊎◌, Bool, true, List, [], ◌∷◌, ◌++◌, length, map, cond, All, Contains, Some, slice_get, slice_index_or}
use Rattle.kaba_bits.specs.Sets.{bit}
use Rattle.why_table.specs.declared.trail.WhyStep.{WhyStep}

-- a set has gained the numbers of a list, and no others
pub record AddsAll (xs : List ℕ) (old new : List Bool) : Type 0 where
  pub width : length new ≡ length old
  pub kept : (i : ℕ) → bit old i ≡ true → bit new i ≡ true
  pub added : (i : ℕ) → Contains xs i → bit new i ≡ true
  pub only : (i : ℕ) → bit new i ≡ true → (bit old i ≡ true) ⊎ Contains xs i

-- each step names earlier ones alone
abbrev pub NamesEarlier : List WhyStep → Type 0
NamesEarlier steps = (k : ℕ) (s : WhyStep) → slice_get steps k ≡ Some s → All (λ x. x < k) s.from.items

-- a number is named by a marked step from k on
pub record IsNamedFrom (steps : List WhyStep) (marks : List Bool) (k i : ℕ) : Type 0 where
  pub by : ℕ
  pub step : WhyStep
  pub high : k ≤ by
  pub is : slice_get steps by ≡ Some step
  pub marked : bit marks by ≡ true
  pub names : Contains step.from.items i

-- the goal is marked, and what the marked steps from k on name; each mark but the goal's is of a step that one of them names
pub record AreNeeded (steps : List WhyStep) (goal k : ℕ) (marks : List Bool) : Type 0 where
  pub width : length marks ≡ goal + 1
  pub goal_marked : bit marks goal ≡ true
  pub down : (j : ℕ) (s : WhyStep) → k ≤ j → slice_get steps j ≡ Some s → bit marks j ≡ true → (x : ℕ) → Contains s.from.items x → bit marks x ≡ true
  pub up : (i : ℕ) → bit marks i ≡ true → i ≢ goal → IsNamedFrom steps marks k i

-- how many numbers below n are marked: the new number of a marked step n
abbrev pub rank : List Bool → ℕ → ℕ
rank marks zero = 0
rank marks (suc n) = rank marks n + cond (bit marks n) 1 0

-- the new numbers of the first k steps
pub record AreRanks (marks : List Bool) (k : ℕ) (places : List ℕ) : Type 0 where
  pub len : length places ≡ k
  pub each : (i : ℕ) → i < k → slice_index_or places i 0 ≡ rank marks i

-- a step whose numbers are changed
pub record IsRenamed (f : ℕ → ℕ) (s new : WhyStep) : Type 0 where
  pub claim : new.claim ≡ s.claim
  pub rule : new.rule ≡ s.rule
  pub from : new.from.items ≡ map f s.from.items

-- the step that stands at a number is this one, with its numbers changed
pub record IsMoved (f : ℕ → ℕ) (s : WhyStep) (out : List WhyStep) (k : ℕ) : Type 0 where
  pub step : WhyStep
  pub is : slice_get out k ≡ Some step
  pub renamed : IsRenamed f s step

-- the marked ones of the first k steps, with their new numbers
pub record AreMoved (steps : List WhyStep) (marks : List Bool) (k : ℕ) (out : List WhyStep) : Type 0 where
  pub len : length out ≡ rank marks k
  pub each : (i : ℕ) (s : WhyStep) → i < k → bit marks i ≡ true → slice_get steps i ≡ Some s → IsMoved (rank marks) s out (rank marks i)

-- a step has been added with its numbers changed
pub record IsPut (f : ℕ → ℕ) (s : WhyStep) (old new : List WhyStep) : Type 0 where
  pub step : WhyStep
  pub is : new ≡ old ++ step ∷ []
  pub renamed : IsRenamed f s step

-- the new numbers of the first k steps, and the marked ones of them
pub record AreKept (steps : List WhyStep) (marks : List Bool) (k : ℕ) (places : List ℕ) (out : List WhyStep) : Type 0 where
  pub ranks : AreRanks marks k places
  pub moved : AreMoved steps marks k out
