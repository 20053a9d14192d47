-- Believed. What the text is that is written of a program and a hierarchy.
use Rattle.std.specs.Prelude.{◌≡◌, ℕ, List, ◌++◌, None}
use Rattle.std.specs.Str.{encode_utf8_all}
use Rattle.java_tree.specs.Syntax.{DeclTree}
use Rattle.java_tree.specs.Formed.{IsReadAs}
use Rattle.java_print.specs.Layout.{tree_text}
use Rattle.java_core.specs.declared.Program.{Program}
use Rattle.java_core.specs.Programs.{program_of}
use Rattle.java_core.specs.Formed.{IsFormed}
use Rattle.name_rules.specs.Causes.{HasNoCondition}
use Rattle.name_rules.specs.Resolves.{Resolves}
use Rattle.fact_model.specs.Entries.{IsTable}
use Rattle.fact_model.specs.Flowing.{AreSets}
use Rattle.fact_model.specs.declared.facts.Facts.{Facts}
use Rattle.fact_model.specs.declared.sets.PointsTo.{PointsTo}
use Rattle.fact_model.specs.declared.sets.Table.{Table}
use Rattle.hier_model.specs.Hierarchies.{Hierarchy, IsHierarchyOf}
use Rattle.hier_rules.specs.First.{first_broken}
use Rattle.write_model.specs.Written.{java_tree}
use Rattle.write_laws.specs.runs.Laws.{KeepsProgram}

-- a text's tree resolves to the program
pub record HasText (program : Program) : Type 0 where
  pub declarations : List DeclTree
  pub resolves : Resolves declarations (program_of program)

-- a hierarchy of the facts that breaks no obligation, by their sets, over their closed table
pub record IsUnbroken (F : Facts) (H : Hierarchy) : Type 0 where
  pub sets : PointsTo
  pub table : Table
  pub are : AreSets F sets
  pub is : IsTable F table
  pub hierarchy : IsHierarchyOf F H
  pub unbroken : first_broken F sets H ≡ None

-- the tree that a hierarchy is written as
abbrev pub tree_of_hierarchy : Program → Facts → Hierarchy → List DeclTree
tree_of_hierarchy program F H = java_tree (program_of program) F H

-- the text is that of the hierarchy's tree and is read as it; the tree resolves to a program that keeps all that the old one is
pub record IsWrittenText (old : Program) (F : Facts) (H : Hierarchy) (text : List ℕ) : Type 0 where
  pub layout : text ≡ encode_utf8_all (tree_text (tree_of_hierarchy old F H))
  pub read : IsReadAs text (tree_of_hierarchy old F H)
  pub none : HasNoCondition (tree_of_hierarchy old F H)
  pub new : Program
  pub resolves : Resolves (tree_of_hierarchy old F H) (program_of new)
  pub formed : IsFormed (program_of new)
  pub keeps : KeepsProgram (program_of old) F H (program_of new)

-- such a text stands behind what stood before
pub record Appends (old : Program) (F : Facts) (H : Hierarchy) (before now : List ℕ) : Type 0 where
  pub text : List ℕ
  pub appended : now ≡ before ++ text
  pub is : IsWrittenText old F H text
