-- Mirror. A program to which the written tree resolves rebuilds the old one over its hierarchy, and has what a written
-- program has.
use Rattle.std.specs.Prelude.{◌≡◌, None}
use Rattle.java_core.specs.Programs.{Plain}
use Rattle.java_core.specs.Typing.{IsTyped}
use Rattle.java_core.specs.Formed.{IsFormed}
use Rattle.name_rules.specs.Resolves.{Resolves}
use Rattle.fact_model.specs.declared.facts.Facts.{Facts}
use Rattle.fact_model.specs.declared.sets.PointsTo.{PointsTo}
use Rattle.hier_model.specs.Hierarchies.{Hierarchy, IsHierarchyOf}
use Rattle.hier_rules.specs.First.{first_broken}
use Rattle.flow_rules.specs.Facts.{IsFactsOf}
use Rattle.rebuild_model.specs.Rebuilds.{Rebuilds}
use Rattle.rebuild_model.specs.Written.{IsWritten}
use Rattle.write_model.specs.Written.{java_tree}
use Rattle.write_laws.specs.bodies.Known.{HasLocalsInOrder}

-- a typed program whose locals are numbered in the order of the text, its facts, and a hierarchy over them that breaks no obligation
pub record IsRewritable (P : Plain) (F : Facts) (s : PointsTo) (H : Hierarchy) : Type 0 where
  pub formed : IsFormed P
  pub typed : IsTyped P
  pub locals : HasLocalsInOrder P
  pub facts : IsFactsOf P F
  pub hierarchy : IsHierarchyOf F H
  pub unbroken : first_broken F s H ≡ None

-- what a written program is
pub record IsRebuiltProgram (P : Plain) (F : Facts) (H : Hierarchy) (W : Plain) : Type 0 where
  pub rebuilds : Rebuilds P F H W
  pub written : IsWritten P F H W rebuilds.places

-- any formed program to which the tree resolves is one
unfoldable pub TreeRebuilds : Type 0
TreeRebuilds = (P : Plain) (F : Facts) (s : PointsTo) (H : Hierarchy) (W : Plain) → IsRewritable P F s H → Resolves (java_tree P F H) W → IsFormed W
    → IsRebuiltProgram P F H W
