-- Believed. The answers of `edit`, for the program of its file and the bytes of its script.
use Rattle.std.specs.Prelude.{ℕ, ◌==◌, List, length, if◌then◌else◌}
use Rattle.fact_model.specs.declared.facts.Facts.{Facts}
use Rattle.hier_view.specs.Text.{hierarchy_text}
use Rattle.edit_script.specs.declared.lines.Line.{Line}
use Rattle.kaba_top.specs.Lines.{GivesReply}
use Rattle.kaba_top.specs.ScriptAnswers.{HasLattice, ScriptAnswers, edited, refusals}

-- 4 where an edit was refused: then it has a line
abbrev pub edit_status : List ℕ → ℕ
edit_status lines = if length lines == 0 then 0 else 4

-- the text of the hierarchy after the edits, and a line for each that was refused
abbrev pub ShowsHierarchy : (bound : ℕ) (facts : Facts) → HasLattice bound facts → List Line → ℕ → List ℕ → List ℕ → Type 0
ShowsHierarchy bound facts has edits = GivesReply (edit_status (refusals bound facts has edits)) (hierarchy_text facts (edited bound facts has edits))
    (refusals bound facts has edits)

-- the answers of `edit` for the facts of a program and the bytes of a script
abbrev pub EditOf : ℕ → List ℕ → Facts → ℕ → List ℕ → List ℕ → Type 0
EditOf bound script facts = ScriptAnswers bound script facts (ShowsHierarchy bound facts)
