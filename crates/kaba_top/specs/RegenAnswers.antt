-- Believed. The answers of `regen`, for the program of its file and the bytes of its script.
use Rattle.std.specs.Prelude.{◌≡◌, ◌⊎◌, ℕ, List, [], ◌++◌, None}
use Rattle.java_core.specs.declared.Program.{Program}
use Rattle.fact_model.specs.declared.facts.Facts.{Facts}
use Rattle.fact_model.specs.declared.sets.PointsTo.{PointsTo}
use Rattle.hier_model.specs.Hierarchies.{Hierarchy}
use Rattle.hier_rules.specs.First.{first_broken}
use Rattle.hier_tree.specs.Trees.{Tree, Stuck, Grows}
use Rattle.edit_script.specs.declared.lines.Line.{Line}
use Rattle.tree_merge.specs.declared.steps.TreeStep.{TreeStep}
use Rattle.tree_merge.specs.declared.trees.NoTree.{NoTree}
use Rattle.tree_merge.specs.Logs.{steps_of, AreEdits}
use Rattle.kaba_top.specs.Logs.{log_text, no_tree_text}
use Rattle.java_write.specs.Written.{IsWrittenText}
use Rattle.kaba_top.specs.Lines.{GivesReply, line}
use Rattle.kaba_top.specs.ScriptAnswers.{HasLattice, ScriptAnswers, start_of, edited, refusals}
use Rattle.kaba_top.specs.EditAnswers.{edit_status}
use Rattle.kaba_top.specs.Fresh.{DeclaresNoInterface, AreDropsAndFreshNames}

-- the steps from a hierarchy end at one whose class nodes are a tree and that breaks no obligation
pub record IsTreeOf (facts : Facts) (sets : PointsTo) (from : Hierarchy) (log : List TreeStep) (tree : Hierarchy) : Type 0 where
  pub grows : Grows facts sets from (steps_of log) (Tree tree)
  pub edits : AreEdits log
  pub unbroken : first_broken facts sets tree ≡ None

-- the steps end at a conflict all of whose tries break an obligation
pub record EndsAtConflict (facts : Facts) (sets : PointsTo) (from : Hierarchy) (fault : NoTree) : Type 0 where
  pub last : Hierarchy
  pub grows : Grows facts sets from (steps_of fault.log.items) (Stuck last fault.conflict fault.broken)
  pub edits : AreEdits fault.log.items

module _ (program : Program) (bound : ℕ) (facts : Facts) (has : HasLattice bound facts) (edits : List Line) (status : ℕ) (out err : List ℕ) where
  -- a tree was found: what is written is the program of its hierarchy, and the log is told after the refused edits
  pub record IsRegenerated : Type 0 where
    pub log : List TreeStep
    pub tree : Hierarchy
    pub is : IsTreeOf facts has.sets (edited bound facts has edits) log tree
    pub text : List ℕ
    pub written : IsWrittenText program facts tree text
    pub gives : GivesReply (edit_status (refusals bound facts has edits)) text (refusals bound facts has edits ++ log_text log) status out err

  -- there is no tree: the log is told, and the conflict; this comes only where the program declares an interface, or the edits do more than
  -- drop nodes and give fresh names
  pub record IsWithoutTree : Type 0 where
    pub fault : NoTree
    pub ends : EndsAtConflict facts has.sets (edited bound facts has edits) fault
    pub more : DeclaresNoInterface program → AreDropsAndFreshNames facts has.sets (start_of bound facts has) edits → ⊥
    pub gives : GivesReply 5 [] (refusals bound facts has edits ++ (log_text fault.log.items ++ line (no_tree_text fault))) status out err

  -- the program of a tree of classes is written, or it is told that there is no tree
  abbrev pub IsRegeneration : Type 0
  IsRegeneration = IsRegenerated ⊎ IsWithoutTree

-- the answers of `regen` for a program, its facts and the bytes of a script
abbrev pub RegenOf : ℕ → List ℕ → Program → Facts → ℕ → List ℕ → List ℕ → Type 0
RegenOf bound script program facts = ScriptAnswers bound script facts (IsRegeneration program bound facts)
