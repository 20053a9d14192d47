-- Believed. What is sure of every run by the points-to sets of the facts: which casts pass, which bodies calls may run,
-- and which members no run reaches.
use Rattle.std.specs.Prelude.{◌≡◌, ◌≢◌, ◌↔◌, ℕ, ◌<◌, Bool, true, false, List, length, map, All, Contains, Some, slice_get, slice_index_or}
use Rattle.std.specs.List.{filter}
use Rattle.kaba_bits.specs.Sets.{bit, row, ListsBelow}
use Rattle.fact_model.specs.Items.{site_class, column_kind}
use Rattle.fact_model.specs.Classes.{IsBelow, finds}
use Rattle.fact_model.specs.declared.facts.Facts.{Facts}
use Rattle.fact_model.specs.declared.facts.BodyInfo.{BodyInfo}
use Rattle.fact_model.specs.declared.facts.CallInfo.{CallInfo}
use Rattle.fact_model.specs.declared.facts.AccessInfo.{AccessInfo}
use Rattle.fact_model.specs.declared.facts.TestInfo.{TestInfo}
use Rattle.fact_model.specs.declared.facts.Spot.{Spot}
use Rattle.fact_model.specs.declared.facts.SpotKind.{SpotKind}
use Rattle.fact_model.specs.declared.facts.SpotKind.TheVariants as spot
use Rattle.fact_model.specs.declared.facts.ColKind.{ColKind}
use Rattle.fact_model.specs.declared.facts.ColKind.TheVariants.{Fld, Dcl, Def, Is}
use Rattle.fact_model.specs.declared.sets.PointsTo.{PointsTo}
use Rattle.sure_report.specs.declared.Bodies.{Bodies}
use Rattle.sure_report.specs.declared.Bodies.TheVariants.{Zero, One, Many}
use Rattle.sure_report.specs.declared.Sure.{Sure}

-- a list has one item for each of another, in its order, and each is of the kind that is asked
pub record AreJudged {A B : Type 0} (R : A → B → Type 0) (xs : List A) (ys : List B) : Type 0 where
  pub count : length ys ≡ length xs
  pub each : (i : ℕ) (x : A) (y : B) → slice_get xs i ≡ Some x → slice_get ys i ≡ Some y → R x y

-- whether a spot is a cast
abbrev pub is_cast : SpotKind → Bool
is_cast spot.Cast = true
is_cast spot.Call = false

-- whether a spot is a call
abbrev pub is_call : SpotKind → Bool
is_call spot.Cast = false
is_call spot.Call = true

-- the casts of the text, in its order
abbrev pub cast_spots : Facts → List Spot
cast_spots F = filter (λ x. is_cast x.kind) F.spots.items

-- the calls of the text through a receiver, in its order
abbrev pub call_spots : Facts → List Spot
call_spots F = filter (λ x. is_call x.kind) F.spots.items

-- the test of a number
abbrev pub test_at : Facts → ℕ → TestInfo
test_at F n = slice_index_or F.tests.items n
    (record { from = 0; target = record { 0 = 0 }; class = record { 0 = 0 }; place = record { at = 0; line = 0 } })

-- a spot of the kind names a test or a call of the facts by its number
abbrev pub IsNumberOf : Facts → SpotKind → ℕ → Type 0
IsNumberOf F spot.Cast n = n < length F.tests.items
IsNumberOf F spot.Call n = n < length F.calls.items

-- each spot names a test or a call of the facts
abbrev pub AreSpotsInRange : Facts → Type 0
AreSpotsInRange F = All (λ x. IsNumberOf F x.kind x.at) F.spots.items

module _ (F : Facts) (t : PointsTo) where
  -- a site is in the set of a point
  abbrev pub InPoint : ℕ → ℕ → Type 0
  InPoint p s = bit (row t.points.items p) s ≡ true

  -- each site in the set of the operand has a class at or below the one that is tested
  abbrev pub AllPass : TestInfo → Type 0
  AllPass x = (s : ℕ) → InPoint x.from s → IsBelow F (site_class F s) x.class.0

  -- a call may run the body of the column d: it is found for a site in the set of the receiver
  pub record MayRun (c : CallInfo) (d : ℕ) : Type 0 where
    pub site : ℕ
    pub there : InPoint c.receiver site
    pub found : finds F (site_class F site) c.slot ≡ Some d

  -- a call may run no body, one alone, or two that differ
  abbrev pub MayRunThese : CallInfo → Bodies → Type 0
  MayRunThese c Zero = (d : ℕ) → MayRun c d → ⊥
  MayRunThese c (One d) = MayRun c d.0 × ((e : ℕ) → MayRun c e → e ≡ d.0)
  MayRunThese c Many = (d : ℕ) × (e : ℕ) × MayRun c d × MayRun c e × (d ≢ e)

  -- no run reaches a member: a body whose `this` has an empty set, or a field none of whose accesses has a row with a
  -- site in its set; a declaration and a mark are no members that a run reaches or leaves
  abbrev pub IsUnreached : ColKind → ℕ → Type 0
  IsUnreached Def c = (b : BodyInfo) → Contains F.bodies.items b → b.column.0 ≡ c → (s : ℕ) → InPoint b.this s → ⊥
  IsUnreached Fld c = (a : AccessInfo) → Contains F.accesses.items a → a.column.0 ≡ c → (s : ℕ) → bit (row t.rows.items a.row.0) s ≡ true → ⊥
  IsUnreached Dcl c = ⊥
  IsUnreached Is c = ⊥

  -- the column is that of a body or a field that no run reaches
  abbrev pub IsDead : ℕ → Type 0
  IsDead c = IsUnreached (column_kind F c) c

  -- the bodies that a call of the facts may run are these
  abbrev pub RunsThese : Spot → Bodies → Type 0
  RunsThese x v = (c : CallInfo) → slice_get F.calls.items x.at ≡ Some c → MayRunThese c v

  -- the report: for each cast and each call of the text, in its order, what is sure of it, and the dead columns
  pub record IsSureReport (r : Sure) : Type 0 where
    pub casts : AreJudged (λ x b. (b ≡ true) ↔ AllPass (test_at F x.at)) (cast_spots F) r.casts.items
    pub calls : AreJudged RunsThese (call_spots F) r.calls.items
    pub dead : ListsBelow IsDead (length F.columns.items) (map (λ c. c.0) r.dead.items)
