-- Mirror. What is known once a script was run on the hierarchy of a program, and once a tree of classes was looked for.
use Rattle.std.specs.Prelude.{ℕ, ◌≤◌, List, length}
use Rattle.java_core.specs.declared.Program.{Program}
use Rattle.fact_model.specs.declared.facts.Facts.{Facts}
use Rattle.fact_model.specs.declared.sets.PointsTo.{PointsTo}
use Rattle.fact_model.specs.declared.sets.Table.{Table}
use Rattle.fact_model.specs.declared.sets.Lattice.{Lattice}
use Rattle.fact_model.specs.Entries.{IsTable}
use Rattle.fact_model.specs.Concepts.{IsLatticeOf}
use Rattle.fact_model.specs.Flowing.{AreSets}
use Rattle.hier_model.specs.Hierarchies.{Hierarchy}
use Rattle.hier_model.specs.Start.{start_from}
use Rattle.hier_laws.specs.Laws.{AreAnalysed}
use Rattle.hier_tree.specs.Kept.{HasNoInterface}
use Rattle.hier_tree.specs.Reached.{IsReached}
use Rattle.tree_merge.specs.declared.steps.TreeStep.{TreeStep}
use Rattle.tree_merge.specs.declared.trees.NoTree.{NoTree}
use Rattle.edit_script.specs.declared.lines.Line.{Line}
use Rattle.edit_script.specs.Script.{AreEditsOf, most_edits}
use Rattle.hier_script.specs.Answers.{IsEdited}
use Rattle.java_write.specs.Written.{IsWrittenText}
use Rattle.kaba_top.specs.declared.script.Proposal.{Proposal}
use Rattle.kaba_top.specs.declared.script.Proposed.{Proposed}
use Rattle.kaba_top.specs.declared.script.Proposed.TheVariants as proposed
use Rattle.kaba_top.specs.declared.regen.Regenerated.{Regenerated}
use Rattle.kaba_top.specs.declared.regen.Regenerated.TheVariants as regenerated
use Rattle.kaba_top.specs.ScriptAnswers.{IsNotRun}
use Rattle.kaba_top.specs.RegenAnswers.{IsTreeOf, EndsAtConflict}

-- the edits of the script were made or refused, one after the other, from the start of the table's lattice
pub record IsProposal (bound : ℕ) (script : List ℕ) (facts : Facts) (p : Proposal) : Type 0 where
  pub are_sets : AreSets facts p.sets
  pub is_table : IsTable facts p.table
  pub is_lattice : IsLatticeOf p.table p.lattice
  pub within : length p.lattice.concepts.items ≤ bound
  pub edits : List Line
  pub are : AreEditsOf script edits
  pub few : length edits ≤ most_edits
  pub is : IsEdited facts p.sets (start_from facts p.table p.lattice) edits p.edited

-- the script was not run, as the reply says, or its edits led to this proposal
abbrev pub IsProposed : ℕ → List ℕ → Facts → Proposed → Type 0
IsProposed bound script facts (proposed.Refused reply) = IsNotRun bound script facts reply.status reply.out.items reply.err.items
IsProposed bound script facts (proposed.Edited p) = IsProposal bound script facts p

-- the steps end at a conflict; where all types are classes, those from a start that drops and fresh names changed never do
pub record IsStuck (facts : Facts) (sets : PointsTo) (from : Hierarchy) (fault : NoTree) : Type 0 where
  pub ends : EndsAtConflict facts sets from fault
  pub unreached : (table : Table) (lattice : Lattice) → AreAnalysed facts sets table lattice → HasNoInterface facts
      → IsReached facts sets table lattice from → ⊥

-- the program of a tree of classes was written
pub record IsWritten (program : Program) (facts : Facts) (sets : PointsTo) (from tree : Hierarchy) (log : List TreeStep) (text : List ℕ) : Type 0 where
  pub is : IsTreeOf facts sets from log tree
  pub written : IsWrittenText program facts tree text

-- the program of a tree of classes was written, or the steps end at a conflict
abbrev pub IsWrittenOver : Program → Facts → PointsTo → Hierarchy → Regenerated → Type 0
IsWrittenOver program facts sets from (regenerated.Written tree log text) = IsWritten program facts sets from tree log.items text.items
IsWrittenOver program facts sets from (regenerated.Stuck fault) = IsStuck facts sets from fault
