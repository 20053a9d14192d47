-- Believed. The answers of `why`, for the program of its file.
use Rattle.std.specs.Prelude.{ℕ, ◌⊎◌, List, [], ◌++◌, codes}
use Rattle.std.specs.Fmt.{decimal}
use Rattle.fact_model.specs.declared.facts.Facts.{Facts}
use Rattle.why_table.specs.declared.trail.Trail.{Trail}
use Rattle.why_table.specs.Found.{HasEntry, IsTrailOf}
use Rattle.why_table.specs.Text.{trail_text}
use Rattle.kaba_top.specs.Lines.{Says, GivesReply}

-- the text that says that the row does not have the column, or that one of them is not there
abbrev pub no_entry : ℕ → ℕ → List ℕ
no_entry row column = codes "no entry r" ++ (decimal row ++ (codes " c" ++ decimal column))

-- the row does not have the column
pub record IsNoEntry (facts : Facts) (row column : ℕ) (status : ℕ) (out err : List ℕ) : Type 0 where
  pub none : HasEntry facts row column → ⊥
  pub says : Says 71 (no_entry row column) status out err

-- the row has the column, and a trail to that entry is shown
pub record IsTrailShown (facts : Facts) (row column : ℕ) (status : ℕ) (out err : List ℕ) : Type 0 where
  pub holds : HasEntry facts row column
  pub trail : Trail
  pub is : IsTrailOf facts (record { 0 = row }) (record { 0 = column }) trail.steps.items
  pub gives : GivesReply 0 (trail_text trail.steps.items) [] status out err

-- the answers of `why` for facts: there is no such entry, or a trail to it is shown
abbrev pub WhyOf : ℕ → ℕ → Facts → ℕ → List ℕ → List ℕ → Type 0
WhyOf row column facts status out err = IsNoEntry facts row column status out err ⊎ IsTrailShown facts row column status out err
