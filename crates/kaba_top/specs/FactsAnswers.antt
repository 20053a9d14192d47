-- Believed. The answers of `table` and `lattice`, for the program of their file.
use Rattle.std.specs.Prelude.{◌≡◌, ◌⊎◌, ℕ, ◌≤◌, Bool, List, [], ◌++◌, length, codes, Some}
use Rattle.std.specs.Fmt.{decimal}
use Rattle.java_core.specs.declared.Program.{Program}
use Rattle.java_core.specs.Programs.{program_of}
use Rattle.fact_model.specs.declared.facts.Facts.{Facts}
use Rattle.fact_model.specs.declared.sets.Table.{Table}
use Rattle.fact_model.specs.declared.sets.Lattice.{Lattice}
use Rattle.fact_model.specs.Entries.{IsTable}
use Rattle.fact_model.specs.Concepts.{AreMoreThan, IsLatticeOf}
use Rattle.flow_rules.specs.declared.faults.Counted.{Counted}
use Rattle.flow_rules.specs.Facts.{too_many}
use Rattle.flow_program.specs.Known.{AreProgramFacts}
use Rattle.lattice_view.specs.Table.{table_text}
use Rattle.kaba_top.specs.declared.cause_words.Cause.TheVariants as cause
use Rattle.kaba_top.specs.CauseWords.{cause_text}
use Rattle.kaba_top.specs.Lines.{Says, GivesReply}
use Rattle.kaba_top.specs.TextFacts.{shown}

-- the program has no facts, since there is too much of something
pub record IsOverLimit (program : Program) (status : ℕ) (out err : List ℕ) : Type 0 where
  pub what : Counted
  pub number : ℕ
  pub over : too_many (program_of program) ≡ Some (record { what = what; number = number })
  pub says : Says 67 (codes "too large: " ++ cause_text (cause.Limit what)) status out err

-- the program is within the limits and has these facts: each list is that of its text, they are in range and in order, and their
-- points-to sets cover each run
abbrev pub HasFacts : Program → Facts → Type 0
HasFacts program facts = AreProgramFacts (program_of program) facts

-- the program has facts for which there is this answer
pub record IsAnalysed (J : Facts → ℕ → List ℕ → List ℕ → Type 0) (program : Program) (status : ℕ) (out err : List ℕ) : Type 0 where
  pub facts : Facts
  pub has : HasFacts program facts
  pub answers : J facts status out err

-- the answers for a program, where J are those for its facts
abbrev pub AnalysisAnswers : (Facts → ℕ → List ℕ → List ℕ → Type 0) → Program → ℕ → List ℕ → List ℕ → Type 0
AnalysisAnswers J program status out err = IsOverLimit program status out err ⊎ IsAnalysed J program status out err

-- the text of the table
pub record TableOf (facts : Facts) (status : ℕ) (out err : List ℕ) : Type 0 where
  pub table : Table
  pub is : IsTable facts table
  pub gives : GivesReply 0 (table_text facts table) [] status out err

-- the text that says that there are more concepts than are allowed
abbrev pub too_many_concepts : ℕ → List ℕ
too_many_concepts bound = codes "too many concepts: more than " ++ decimal bound

-- the table has more concepts than are allowed
pub record IsTooMany (bound : ℕ) (table : Table) (status : ℕ) (out err : List ℕ) : Type 0 where
  pub more : AreMoreThan table.rows.items table.width bound
  pub says : Says 68 (too_many_concepts bound) status out err

-- the table has this lattice, within what is allowed
pub record IsLatticeShown (json : Bool) (bound : ℕ) (facts : Facts) (table : Table) (status : ℕ) (out err : List ℕ) : Type 0 where
  pub lattice : Lattice
  pub is : IsLatticeOf table lattice
  pub within : length lattice.concepts.items ≤ bound
  pub gives : GivesReply 0 (shown json facts lattice) [] status out err

-- the answers of `lattice` for facts: the text or the JSON of the lattice, or that it has too many concepts
pub record LatticeOf (json : Bool) (bound : ℕ) (facts : Facts) (status : ℕ) (out err : List ℕ) : Type 0 where
  pub table : Table
  pub is : IsTable facts table
  pub answers : IsTooMany bound table status out err ⊎ IsLatticeShown json bound facts table status out err
