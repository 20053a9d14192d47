-- Believed. What a script comes to on the hierarchy at which a program starts.
use Rattle.std.specs.Prelude.{◌⊎◌, ℕ, ◌≤◌, List, ◌++◌, length, codes}
use Rattle.std.specs.Fmt.{decimal}
use Rattle.fact_model.specs.declared.facts.Facts.{Facts}
use Rattle.fact_model.specs.declared.sets.Table.{Table}
use Rattle.fact_model.specs.declared.sets.Lattice.{Lattice}
use Rattle.fact_model.specs.declared.sets.PointsTo.{PointsTo}
use Rattle.fact_model.specs.Entries.{IsTable}
use Rattle.fact_model.specs.Concepts.{IsLatticeOf}
use Rattle.fact_model.specs.Flowing.{AreSets}
use Rattle.hier_model.specs.Hierarchies.{Hierarchy}
use Rattle.hier_model.specs.Start.{start_from}
use Rattle.edit_script.specs.declared.lines.Line.{Line}
use Rattle.edit_script.specs.Script.{AreEditsOf, IsFirstBadLine, HasTooManyEdits, most_edits}
use Rattle.hier_script.specs.Scripts.{after_edits, refusals_of}
use Rattle.kaba_top.specs.Lines.{Says}
use Rattle.kaba_top.specs.FactsAnswers.{IsTooMany}

-- the text for a script of which this line is no edit and no undo
abbrev pub bad_script : ℕ → List ℕ
bad_script n = codes "bad script: line " ++ decimal n

-- the text for a script of more edits than it may have
abbrev pub too_many_edits : List ℕ
too_many_edits = codes "too large: edits 4096"

-- the points-to sets of the facts, their closed table, and its lattice, which is within what is allowed
pub record HasLattice (bound : ℕ) (facts : Facts) : Type 0 where
  pub sets : PointsTo
  pub are_sets : AreSets facts sets
  pub table : Table
  pub is_table : IsTable facts table
  pub lattice : Lattice
  pub is_lattice : IsLatticeOf table lattice
  pub within : length lattice.concepts.items ≤ bound

-- the closed table of the facts has more concepts than are allowed
pub record IsOverBound (bound : ℕ) (facts : Facts) (status : ℕ) (out err : List ℕ) : Type 0 where
  pub table : Table
  pub is : IsTable facts table
  pub many : IsTooMany bound table status out err

-- a line of the script is no edit and no undo, and this is the first
pub record IsBadScript (script : List ℕ) (status : ℕ) (out err : List ℕ) : Type 0 where
  pub line : ℕ
  pub first : IsFirstBadLine script line
  pub says : Says 69 (bad_script line) status out err

-- the script has more edits than it may have
pub record IsLongScript (script : List ℕ) (status : ℕ) (out err : List ℕ) : Type 0 where
  pub many : HasTooManyEdits script
  pub says : Says 67 too_many_edits status out err

-- the script is not run, and why
pub record IsScriptFault (bound : ℕ) (script : List ℕ) (facts : Facts) (status : ℕ) (out err : List ℕ) : Type 0 where
  pub has : HasLattice bound facts
  pub fault : IsBadScript script status out err ⊎ IsLongScript script status out err

-- the script is not run: there are too many concepts, or the script is at fault
abbrev pub IsNotRun : ℕ → List ℕ → Facts → ℕ → List ℕ → List ℕ → Type 0
IsNotRun bound script facts status out err = IsOverBound bound facts status out err ⊎ IsScriptFault bound script facts status out err

module _ (bound : ℕ) (facts : Facts) (has : HasLattice bound facts) where
  -- the hierarchy that the lattice proposes
  abbrev pub start_of : Hierarchy
  start_of = start_from facts has.table has.lattice

  -- the hierarchy after edits and undos, each of which was made or refused in its turn
  abbrev pub edited : List Line → Hierarchy
  edited edits = after_edits facts has.sets start_of edits

  -- the lines of those that were refused
  abbrev pub refusals : List Line → List ℕ
  refusals edits = refusals_of facts has.sets start_of edits

module _ (bound : ℕ) (script : List ℕ) (facts : Facts) (A : HasLattice bound facts → List Line → ℕ → List ℕ → List ℕ → Type 0) where
  -- the script was run: these are its edits, and A are the answers then
  pub record IsRun (status : ℕ) (out err : List ℕ) : Type 0 where
    pub has : HasLattice bound facts
    pub edits : List Line
    pub are : AreEditsOf script edits
    pub few : length edits ≤ most_edits
    pub answers : A has edits status out err

  -- the answers for a script: it is not run, or it is run and A are the answers then
  abbrev pub ScriptAnswers : ℕ → List ℕ → List ℕ → Type 0
  ScriptAnswers status out err = IsNotRun bound script facts status out err ⊎ IsRun status out err
