-- Believed. What is sure of every run by the report is so in each run.
use Rattle.std.specs.Prelude.{◌≡◌, ℕ, Bool, true, List, Contains, Option, Some, slice_get}
use Rattle.std.specs.Option.{option_and_then}
use Rattle.kaba_base.specs.declared.ColId.{ColId}
use Rattle.java_core.specs.declared.Ty.{Ty}
use Rattle.java_core.specs.Trees.{Tag, Ex, Exs, call, cast}
use Rattle.java_core.specs.Programs.{Plain}
use Rattle.java_core.specs.Types.{class_type}
use Rattle.java_core.specs.Typing.{IsTyped}
use Rattle.java_core.specs.Formed.{IsFormed}
use Rattle.java_meaning.specs.Moment.{Value, Number, Truth, CodeUnit, Nothing, Text, Object, Spot as Seen, held, bound, self_of, result_of, set_static, kept, put_in, touched, tested, ran, Met, unnoted}
use Rattle.java_meaning.specs.Languages.{run}
use Rattle.fact_model.specs.Flowing.{AreSets}
use Rattle.fact_model.specs.declared.facts.Facts.{Facts}
use Rattle.fact_model.specs.declared.facts.CallInfo.{CallInfo}
use Rattle.fact_model.specs.declared.facts.TestInfo.{TestInfo}
use Rattle.fact_model.specs.declared.facts.Spot.{Spot}
use Rattle.fact_model.specs.declared.sets.PointsTo.{PointsTo}
use Rattle.flow_rules.specs.declared.items.ColumnItem.TheVariants as column
use Rattle.flow_rules.specs.declared.items.PointItem.TheVariants as point
use Rattle.flow_rules.specs.Operands.{call_slot, type_in}
use Rattle.flow_rules.specs.Lists.{point_at, site_in}
use Rattle.flow_rules.specs.Facts.{numbers, IsFactsOf}
use Rattle.flow_laws.specs.cover.Covers.{Sets, IsClosed, operand_at, at_point, point_sites, tested_by, called_on}
use Rattle.sure_report.specs.declared.Bodies.{Bodies}
use Rattle.sure_report.specs.declared.Bodies.TheVariants.{Zero, One, Many}
use Rattle.sure_report.specs.declared.Sure.{Sure}
use Rattle.sure_report.specs.Report.{cast_spots, call_spots, test_at, IsSureReport}
use Rattle.sure_laws.specs.Events.{Event, cast_met, body_ran, body_entered, field_touched, recorded, events}

-- the record tells nothing else: a run that is recorded is the run, but for its record
unfoldable pub IsRunRecorded : Type 0
IsRunRecorded = (P : Plain) (words : List (List ℕ)) (n : ℕ) → unnoted (recorded P words n) ≡ run P words n

module _ (P : Plain) (F : Facts) (S : Sets) where
  -- what a creation made has a site, and it is in the set
  pub record IsInSet (X : ℕ → Bool) (o : Option ℕ) : Type 0 where
    pub site : ℕ
    pub is : site_in (numbers P) o ≡ Some site
    pub there : X site ≡ true

  -- what a cast or `instanceof` tests is in the set of its operand, what a call runs on in that of its receiver, what a constructor runs on for a
  -- creation in that of the creation, what a body is entered on in that of its `this`, and what a field is read or written of in that of its base
  abbrev pub IsMetIn : Seen → Option ℕ → Type 0
  IsMetIn (tested m d b) o = IsInSet (point_sites P F S (operand_at P m (tested_by P F S d))) o
  IsMetIn (ran m d c) o = IsInSet (point_sites P F S (operand_at P m (called_on P F S d))) o
  IsMetIn (self_of c) o = IsInSet (at_point P F S ((numbers P).point (point.This c))) o
  IsMetIn (touched m e f) o = IsInSet (point_sites P F S (operand_at P m e)) o
  IsMetIn (held m e) o = Unit {0}
  IsMetIn (bound m i) o = Unit {0}
  IsMetIn (result_of m) o = Unit {0}
  IsMetIn (set_static f) o = Unit {0}
  IsMetIn (kept c f) o = Unit {0}
  IsMetIn (put_in c) o = Unit {0}

  -- of objects and arrays alone
  abbrev pub IsValueMetIn : Value → Seen → Option ℕ → Type 0
  IsValueMetIn (Object a) p o = IsMetIn p o
  IsValueMetIn (Number n) p o = Unit {0}
  IsValueMetIn (Truth b) p o = Unit {0}
  IsValueMetIn (CodeUnit c) p o = Unit {0}
  IsValueMetIn Nothing p o = Unit {0}
  IsValueMetIn (Text a) p o = Unit {0}

-- for every family of sets that the inclusions of the facts close, for all words and every bound: what a run meets has its site in the set of its
-- operand, receiver, `this` or base
unfoldable pub MeetInSets : Plain → Facts → Type 0
MeetInSets P F = (S : Sets) → IsClosed F S → (words : List (List ℕ)) (n : ℕ) (x : Met) → Contains (recorded P words n).met x
    → IsValueMetIn P F S x.value x.spot x.site

module _ (P : Plain) where
  -- the slot that a call of a name on an expression of the method m calls
  abbrev pub called_slot : ℕ → Ex → List ℕ → Option ℕ
  called_slot m e x = option_and_then (λ k. call_slot P (type_in P m k e) x) (slice_get P.methods m)

  -- a cast of the method m is a test of the facts: of this operand, and to this class
  pub data IsCastOf (m : ℕ) : Ex → TestInfo → Type 0 where
    cast_of : {t : Tag} {n : ℕ} {u : Ty} {e : Ex} {x : TestInfo} → point_at (numbers P) (operand_at P m e) ≡ Some x.from
        → u ≡ class_type x.class.0 → IsCastOf m (cast t n u e) x

  -- a call of the method m is one of the facts: of this receiver and this slot
  pub data IsCallOf (m : ℕ) : Ex → CallInfo → Type 0 where
    call_of : {t : Tag} {e : Ex} {y : List ℕ} {es : Exs} {c : CallInfo} → point_at (numbers P) (operand_at P m e) ≡ Some c.receiver
        → called_slot m e y ≡ Some c.slot → IsCallOf m (call t e y es) c

  -- the report allows that a call runs the body of a method
  abbrev pub Allows : Bodies → ℕ → Type 0
  Allows Zero c = ⊥
  Allows (One d) c = (numbers P).column (column.Def c) ≡ Some d.0
  Allows Many c = Unit {0}

  module _ (F : Facts) where
    -- a spot is that of a cast of the method m: it stands at its place, and its test is that of the cast
    pub data IsSpotOfCast (m : ℕ) : Ex → Spot → Type 0 where
      spot_of_cast : {t : Tag} {n : ℕ} {u : Ty} {e : Ex} {x : Spot} → x.place ≡ t.place → IsCastOf m (cast t n u e) (test_at F x.at)
          → IsSpotOfCast m (cast t n u e) x

    -- a spot is that of a call of the method m, which is a call of the facts
    pub data IsSpotOfCall (m : ℕ) : Ex → Spot → CallInfo → Type 0 where
      spot_of_call : {t : Tag} {e : Ex} {y : List ℕ} {es : Exs} {x : Spot} {c : CallInfo} → x.place ≡ t.place → slice_get F.calls.items x.at ≡ Some c
          → IsCallOf m (call t e y es) c → IsSpotOfCall m (call t e y es) x c

    -- the cast has its spot among those of the casts
    pub record HasCastSpot (m : ℕ) (d : Ex) : Type 0 where
      pub number : ℕ
      pub spot : Spot
      pub listed : slice_get (cast_spots F) number ≡ Some spot
      pub own : IsSpotOfCast m d spot

    -- the call has its spot among those of the calls
    pub record HasCallSpot (m : ℕ) (d : Ex) : Type 0 where
      pub number : ℕ
      pub spot : Spot
      pub listed : slice_get (call_spots F) number ≡ Some spot
      pub call : CallInfo
      pub own : IsSpotOfCall m d spot call

    module _ (r : Sure) where
      -- no object fails the cast where the report says of a spot with its operand and its class that it is sure
      abbrev pub PassesWhereSure : ℕ → Ex → Bool → Type 0
      PassesWhereSure m d b = (i : ℕ) (x : Spot) → slice_get (cast_spots F) i ≡ Some x → slice_get r.casts.items i ≡ Some true → IsCastOf m d (test_at F x.at)
          → b ≡ true

      -- the call runs only what the report says of a spot with its receiver and its slot
      abbrev pub RunsWhatIsSaid : ℕ → Ex → ℕ → Type 0
      RunsWhatIsSaid m d c = (i : ℕ) (x : Spot) (k : CallInfo) (v : Bodies) → slice_get (call_spots F) i ≡ Some x → slice_get F.calls.items x.at ≡ Some k
          → slice_get r.calls.items i ≡ Some v → IsCallOf m d k → Allows v c

      -- an event is as the report says: a cast and a call have their own spots, at their places; no object fails a cast that is sure, and a call runs no
      -- body, one alone or any; no dead body is entered, and no dead field is read or written
      abbrev pub IsAsSaid : Event → Type 0
      IsAsSaid (cast_met m d b) = HasCastSpot m d × PassesWhereSure m d b
      IsAsSaid (body_ran m d c) = HasCallSpot m d × RunsWhatIsSaid m d c
      IsAsSaid (body_entered c) = (d : ColId) → Contains r.dead.items d → (numbers P).column (column.Def c) ≡ Some d.0 → ⊥
      IsAsSaid (field_touched f) = (d : ColId) → Contains r.dead.items d → (numbers P).column (column.Fld f) ≡ Some d.0 → ⊥

      -- for all words and every bound, what the run meets is as the report says
      unfoldable pub IsTrueOfRuns : Type 0
      IsTrueOfRuns = (words : List (List ℕ)) (n : ℕ) (e : Event) → Contains (events P words n) e → IsAsSaid e

-- what the runs of a typed program meet is in the sets
unfoldable pub RunsMeetInSets : Type 0
RunsMeetInSets = (P : Plain) (F : Facts) → IsFormed P → IsTyped P → IsFactsOf P F → MeetInSets P F

-- the report on the facts and the points-to sets of a typed program is true of its runs
unfoldable pub ReportsAreTrue : Type 0
ReportsAreTrue = (P : Plain) (F : Facts) (t : PointsTo) (r : Sure) → IsFormed P → IsTyped P → IsFactsOf P F → AreSets F t → IsSureReport F t r
    → IsTrueOfRuns P F r
