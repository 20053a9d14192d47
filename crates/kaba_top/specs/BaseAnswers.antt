-- Believed. The answers of `base`, for the program of its file.
use Rattle.std.specs.Prelude.{ℕ, ◌≤◌, ◌⊎◌, List, [], length, codes}
use Rattle.fact_model.specs.declared.facts.Facts.{Facts}
use Rattle.fact_model.specs.declared.sets.Table.{Table}
use Rattle.fact_model.specs.Entries.{IsTable}
use Rattle.fact_model.specs.Concepts.{AreMoreThan}
use Rattle.stem_base.specs.Base.{Sides, common, IsStemBase, AreMoreStems}
use Rattle.stem_base.specs.Text.{base_text}
use Rattle.kaba_words.specs.Commands.{usual_concepts}
use Rattle.kaba_top.specs.Lines.{Says, GivesReply}
use Rattle.kaba_top.specs.FactsAnswers.{IsTooMany}

-- how many implications a base may have
abbrev pub most_implications : ℕ
most_implications = 4096

-- the text that says that there are more
abbrev pub too_many_implications : List ℕ
too_many_implications = codes "too large: implications 4096"

-- the table has more implications than a base may have
pub record IsManyImplications (table : Table) (status : ℕ) (out err : List ℕ) : Type 0 where
  pub more : AreMoreStems table.width (common table.rows.items table.width) most_implications
  pub says : Says 67 too_many_implications status out err

-- the table has this base, within what is allowed
pub record IsBaseShown (table : Table) (status : ℕ) (out err : List ℕ) : Type 0 where
  pub base : List Sides
  pub is : IsStemBase table.width (common table.rows.items table.width) base
  pub within : length base ≤ most_implications
  pub gives : GivesReply 0 (base_text base) [] status out err

-- the text of the base of a table, or that it has too many implications
abbrev pub StemsOf : Table → ℕ → List ℕ → List ℕ → Type 0
StemsOf table status out err = IsManyImplications table status out err ⊎ IsBaseShown table status out err

-- the table has no more concepts than a lattice has where nothing else is asked, and there is this answer
pub record IsFewConcepts (table : Table) (status : ℕ) (out err : List ℕ) : Type 0 where
  pub few : AreMoreThan table.rows.items table.width usual_concepts → ⊥
  pub answers : StemsOf table status out err

-- the answers of `base` for facts: the table has too many concepts, or too many implications, or the text of its base is given
pub record BaseOf (facts : Facts) (status : ℕ) (out err : List ℕ) : Type 0 where
  pub table : Table
  pub is : IsTable facts table
  pub answers : IsTooMany usual_concepts table status out err ⊎ IsFewConcepts table status out err
