-- Believed. Trails: lists of steps, each of which follows from earlier ones by its rule.
use Rattle.std.specs.Prelude.{ℕ, ◌<◌, List, length, map, All, slice_index_or}
use Rattle.fact_model.specs.Flowing.{Holds, in_point, in_cell}
use Rattle.fact_model.specs.Entries.{IsEntry}
use Rattle.fact_model.specs.declared.facts.Facts.{Facts}
use Rattle.why_table.specs.Rules.{GivesClaim}
use Rattle.why_table.specs.declared.trail.Claim.{Claim}
use Rattle.why_table.specs.declared.trail.Claim.TheVariants.{InPoint, InCell, Entry}
use Rattle.why_table.specs.declared.trail.WhyStep.{WhyStep}

-- what a claim says holds: of the least sets, and of the least closed table
abbrev pub ClaimHolds : Facts → Claim → Type 0
ClaimHolds F (InPoint p s) = Holds F (in_point p s.0)
ClaimHolds F (InCell c s) = Holds F (in_cell c s.0)
ClaimHolds F (Entry r c) = IsEntry F r.0 c.0

-- the claim of the step of a number; a number past the end names nothing of interest
abbrev pub claim_at : List WhyStep → ℕ → Claim
claim_at steps k = slice_index_or (map (λ s. s.claim) steps) k (InPoint 0 (record { 0 = 0 }))

-- a step, the k-th of a trail, follows: it names earlier steps, of whose claims its rule gives its own
pub record Follows (F : Facts) (steps : List WhyStep) (k : ℕ) (step : WhyStep) : Type 0 where
  pub earlier : All (λ j. j < k) step.from.items
  pub given : GivesClaim F step.rule (map (claim_at steps) step.from.items) step.claim

-- each step of a trail follows
abbrev pub Passes : Facts → List WhyStep → Type 0
Passes F steps = (k : ℕ) (d : WhyStep) → k < length steps → Follows F steps k (slice_index_or steps k d)
