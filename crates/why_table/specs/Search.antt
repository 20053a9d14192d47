-- Mirror. Steps so far, and what follows from them.
use Rattle.std.specs.Prelude.{◌≡◌, ℕ, ◌<◌, ◌≤◌, ◌++◌, ◌⊎◌, Bool, true, List, [], ◌∷◌, length, map, All, slice_index_or}
use Rattle.kaba_bits.specs.Sets.{bit, row}
use Rattle.fact_model.specs.declared.facts.Facts.{Facts}
use Rattle.fact_model.specs.declared.sets.PointsTo.{PointsTo}
use Rattle.fact_model.specs.declared.sets.Table.{Table}
use Rattle.fact_model.specs.InRange.{InRange}
use Rattle.fact_model.specs.Flowing.{AreSets}
use Rattle.fact_model.specs.Entries.{IsTable}
use Rattle.why_table.specs.Rules.{GivesClaim}
use Rattle.why_table.specs.Trails.{claim_at, Follows, Passes}
use Rattle.why_table.specs.Found.{HaveOneEach, AreMemberAccesses}
use Rattle.why_table.specs.declared.trail.Claim.{Claim}
use Rattle.why_table.specs.declared.trail.Claim.TheVariants.{InPoint, InCell, Entry}
use Rattle.why_table.specs.declared.trail.WhyRule.{WhyRule}
use Rattle.why_table.specs.declared.trail.WhyRule.TheVariants.{P1, P2, P3, P4, P5, P6, P7, P8, T1, T2, T3, T4, T5, T6, T7, T8, T9, T10, T11}
use Rattle.why_table.specs.declared.trail.WhyStep.{WhyStep}
use Rattle.why_table.specs.declared.find.Given.{Given}
use Rattle.why_table.specs.declared.find.search.Asked.{Asked}
use Rattle.why_table.specs.declared.find.Kind.{Kind}
use Rattle.why_table.specs.declared.find.Kind.TheVariants.{Point, Cell, Row}

-- the rule of a number; a number past the last names the last
abbrev pub rule_at : ℕ → WhyRule
rule_at k = slice_index_or (P1 ∷ P2 ∷ P3 ∷ P4 ∷ P5 ∷ P6 ∷ P7 ∷ P8 ∷ T1 ∷ T2 ∷ T3 ∷ T4 ∷ T5 ∷ T6 ∷ T7 ∷ T8 ∷ T9 ∷ T10 ∷ []) k T11

-- a step has this claim
pub record HasClaim (steps : List WhyStep) (claim : Claim) : Type 0 where
  pub at : ℕ
  pub below : at < length steps
  pub is : claim_at steps at ≡ claim

-- the steps pass, no claim stands twice, and their numbers fit
pub record AreSteps (F : Facts) (steps : List WhyStep) : Type 0 where
  pub passes : Passes F steps
  pub once : HaveOneEach steps
  pub few : length steps < 4294967295

-- a step of this number has the claim
pub record HasClaimAt (steps : List WhyStep) (claim : Claim) (k : ℕ) : Type 0 where
  pub below : k < length steps
  pub is : claim_at steps k ≡ claim

-- there are more steps than before
pub record AreMore (F : Facts) (old new : List WhyStep) : Type 0 where
  pub steps : AreSteps F new
  pub more : length old < length new

-- the facts are in range, and the sets and the table are theirs
pub record IsSearchInput (g : Given) : Type 0 where
  pub facts : InRange g.facts.now
  pub sets : AreSets g.facts.now g.pt.now
  pub table : IsTable g.facts.now g.table.now
  pub accesses : AreMemberAccesses g.facts.now

-- facts in range, and steps whose numbers fit
pub record IsTrailInput (a : Asked) : Type 0 where
  pub facts : InRange a.facts.now
  pub few : length a.steps.now < 4294967295

-- a step that follows from these has the claim
pub record IsStepFor (F : Facts) (steps : List WhyStep) (claim : Claim) (s : WhyStep) : Type 0 where
  pub claim_is : s.claim ≡ claim
  pub follows : Follows F steps (length steps) s

-- a step that follows from these has a claim that none of them has
pub record IsNextStep (F : Facts) (steps : List WhyStep) (s : WhyStep) : Type 0 where
  pub follows : Follows F steps (length steps) s
  pub fresh : HasClaim steps s.claim → ⊥

-- that a site is in a point or in a cell, or that a row has a column
abbrev pub claim_of : Kind → ℕ → ℕ → Claim
claim_of Point a b = InPoint a (record { 0 = b })
claim_of Cell a b = InCell a (record { 0 = b })
claim_of Row a b = Entry (record { 0 = a }) (record { 0 = b })

module _ (F : Facts) (steps : List WhyStep) where
  -- the rule does not give the claim of the steps of these numbers
  abbrev pub NoneBy : Claim → WhyRule → List ℕ → Type 0
  NoneBy claim rule from = All (λ j. j < length steps) from → GivesClaim F rule (map (claim_at steps) from) claim → ⊥

  -- nor of these and at most so many more
  abbrev pub NoneUpTo : Claim → WhyRule → List ℕ → ℕ → Type 0
  NoneUpTo claim rule from m = (more : List ℕ) → length more ≤ m → NoneBy claim rule (from ++ more)

  -- no rule gives the claim of any of the steps
  abbrev pub NoneGives : Claim → Type 0
  NoneGives claim = (rule : WhyRule) → NoneUpTo claim rule [] 3

  -- a step has the claim, or no rule gives it
  abbrev pub IsDone : Claim → Type 0
  IsDone claim = HasClaim steps claim ⊎ NoneGives claim

  -- this holds of the claims of one set
  abbrev pub IsRowDone : Kind → ℕ → List Bool → Type 0
  IsRowDone kind a set = (b : ℕ) → bit set b ≡ true → IsDone (claim_of kind a b)

  -- and of the claims of a family of sets
  abbrev pub AreRowsDone : Kind → List (List Bool) → Type 0
  AreRowsDone kind sets = (a : ℕ) → a < length sets → IsRowDone kind a (row sets a)

  -- and of all claims of the points-to sets and the table
  pub record AreAllDone (pt : PointsTo) (t : Table) : Type 0 where
    pub points : AreRowsDone Point pt.points.items
    pub cells : AreRowsDone Cell pt.cells.items
    pub entries : AreRowsDone Row t.rows.items
