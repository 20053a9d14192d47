-- Mirror. The tree that is written of a program and a hierarchy can be read again: none of the conditions that refuse a
-- text's names holds of it.
use Rattle.std.specs.Prelude.{◌≡◌, None}
use Rattle.java_core.specs.Programs.{Plain}
use Rattle.java_core.specs.Formed.{IsFormed}
use Rattle.name_rules.specs.Causes.{HasNoCondition}
use Rattle.fact_model.specs.declared.facts.Facts.{Facts}
use Rattle.fact_model.specs.declared.sets.PointsTo.{PointsTo}
use Rattle.hier_model.specs.Hierarchies.{Hierarchy, IsHierarchyOf}
use Rattle.hier_rules.specs.First.{first_broken}
use Rattle.flow_rules.specs.Facts.{IsFactsOf, AreNamesOf}
use Rattle.write_model.specs.Written.{java_tree}

-- a formed program, its facts with the names of its text, and a hierarchy over them that breaks no obligation
pub record IsNamedProgram (P : Plain) (F : Facts) (s : PointsTo) (H : Hierarchy) : Type 0 where
  pub formed : IsFormed P
  pub facts : IsFactsOf P F
  pub words : AreNamesOf P F
  pub hierarchy : IsHierarchyOf F H
  pub unbroken : first_broken F s H ≡ None

-- the names of the tree that is written are those of one thing each
unfoldable pub TreeResolves : Type 0
TreeResolves = (P : Plain) (F : Facts) (s : PointsTo) (H : Hierarchy) → IsNamedProgram P F s H → HasNoCondition (java_tree P F H)
