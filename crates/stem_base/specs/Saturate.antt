-- Mirror. Closing a set under implications that are kept as rows.
use Rattle.std.specs.Prelude.{◌≡◌, ℕ, ◌<◌, ◌≤◌, Bool, false, List, length, slice_index_or}
use Rattle.std.specs.Bool.{MatchBool}
use Rattle.kaba_bits.specs.Sets.{size, IsSubset}
use Rattle.stem_base.specs.Base.{Sides, Respects, IsClosedUnder}
use Rattle.stem_base.specs.declared.implications.Implication.{Implication}

-- both sides of an implication have a width
abbrev pub IsWide : ℕ → Implication → Type 0
IsWide w x = (length x.left ≡ w) × (length x.right ≡ w)

-- a set has grown to no more than each set that holds it and is closed under the implications
abbrev pub IsWithinClosed : (List Bool → Type 0) → List Bool → List Bool → Type 0
IsWithinClosed Closed old new = (Y : List Bool) → IsSubset old Y → Closed Y → IsSubset new Y

-- a set closed in part: it has not lost a number, has no more than it must, and the answer tells whether it grew
pub record ClosesInPart (Closed : List Bool → Type 0) (old new : List Bool) (grew : Bool) : Type 0 where
  pub width : length new ≡ length old
  pub holds : IsSubset old new
  pub least : IsWithinClosed Closed old new
  pub step : MatchBool grew (size old < size new) (new ≡ old)
  pub closed : grew ≡ false → Closed old

-- the least closed set that holds a set
pub record IsSaturated (base : List Sides) (old new : List Bool) : Type 0 where
  pub width : length new ≡ length old
  pub holds : IsSubset old new
  pub closed : IsClosedUnder base new
  pub least : IsWithinClosed (IsClosedUnder base) old new

-- a round over the implications from the place n on
pub record IsRoundDown (base : List Sides) (n : ℕ) (old new : List Bool) (grew : Bool) : Type 0 where
  pub width : length new ≡ length old
  pub holds : IsSubset old new
  pub least : IsWithinClosed (IsClosedUnder base) old new
  pub step : MatchBool grew (size old < size new) (new ≡ old)
  pub closed : grew ≡ false → (k : ℕ) (d : Sides) → n ≤ k → k < length base → Respects old (slice_index_or base k d)

-- a round over the first n implications
pub record IsRound (base : List Sides) (n : ℕ) (old new : List Bool) (grew : Bool) : Type 0 where
  pub width : length new ≡ length old
  pub holds : IsSubset old new
  pub least : IsWithinClosed (IsClosedUnder base) old new
  pub step : MatchBool grew (size old < size new) (new ≡ old)
  pub closed : grew ≡ false → (k : ℕ) (d : Sides) → k < n → k < length base → Respects old (slice_index_or base k d)
