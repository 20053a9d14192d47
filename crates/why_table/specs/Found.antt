-- Believed. Which entries there are, and what the trail of one is.
use Rattle.std.specs.Prelude.{◌≡◌, ℕ, ◌+◌, ◌<◌, ◌⊎◌, List, length, All, Contains, Some, slice_get}
use Rattle.kaba_base.specs.declared.RowId.{RowId}
use Rattle.kaba_base.specs.declared.ColId.{ColId}
use Rattle.fact_model.specs.Items.{column_kind}
use Rattle.fact_model.specs.Entries.{IsEntry}
use Rattle.fact_model.specs.declared.facts.Facts.{Facts}
use Rattle.fact_model.specs.declared.facts.ColKind.TheVariants.{Fld, Dcl}
use Rattle.why_table.specs.Trails.{claim_at, Passes}
use Rattle.why_table.specs.declared.trail.Claim.TheVariants.{Entry}
use Rattle.why_table.specs.declared.trail.WhyStep.{WhyStep}

-- each access is that of a field or of a declaration
abbrev pub AreMemberAccesses : Facts → Type 0
AreMemberAccesses F = All (λ x. (column_kind F x.column.0 ≡ Fld) ⊎ (column_kind F x.column.0 ≡ Dcl)) F.accesses.items

-- the row and the column are there, and the least closed table has the entry
pub record HasEntry (F : Facts) (r c : ℕ) : Type 0 where
  pub row : r < length F.rows.items
  pub column : c < length F.columns.items
  pub entry : IsEntry F r c

-- a later step names the step of a number
pub record IsNamedLater (steps : List WhyStep) (k : ℕ) : Type 0 where
  pub by : ℕ
  pub step : WhyStep
  pub later : k < by
  pub is : slice_get steps by ≡ Some step
  pub names : Contains step.from.items k

-- no claim stands twice
abbrev pub HaveOneEach : List WhyStep → Type 0
HaveOneEach steps = (j k : ℕ) → j < k → k < length steps → claim_at steps j ≡ claim_at steps k → ⊥

-- steps that pass and end in the entry; no claim stands twice, and each step but the last is named by a later one
pub record IsTrailOf (F : Facts) (r : RowId) (c : ColId) (steps : List WhyStep) : Type 0 where
  pub passes : Passes F steps
  pub last : ℕ
  pub len : length steps ≡ last + 1
  pub ends : claim_at steps last ≡ Entry r c
  pub once : HaveOneEach steps
  pub named : (k : ℕ) → k < last → IsNamedLater steps k
