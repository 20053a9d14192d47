-- Mirror. The tree that is written of a program and a hierarchy is one that the grammar gives.
use Rattle.java_tree.specs.Formed.{IsFormedTree, IsGiven}
use Rattle.java_core.specs.Programs.{Plain}
use Rattle.fact_model.specs.declared.facts.Facts.{Facts}
use Rattle.fact_model.specs.declared.sets.PointsTo.{PointsTo}
use Rattle.fact_model.specs.declared.sets.Table.{Table}
use Rattle.hier_model.specs.Hierarchies.{Hierarchy}
use Rattle.rebuild_laws.specs.types.Laws.{IsRebuildable}
use Rattle.write_model.specs.Written.{java_tree}

-- its parts are such as the grammar gives
unfoldable pub TreeIsFormed : Type 0
TreeIsFormed = (P : Plain) (F : Facts) (s : PointsTo) (t : Table) (H : Hierarchy) → IsRebuildable P F s t H → IsFormedTree (java_tree P F H)

-- and the tokens of some text derive it
unfoldable pub TreeIsGiven : Type 0
TreeIsGiven = (P : Plain) (F : Facts) (s : PointsTo) (t : Table) (H : Hierarchy) → IsRebuildable P F s t H → IsGiven (java_tree P F H)
