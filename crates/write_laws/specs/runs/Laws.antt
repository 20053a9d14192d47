-- Believed. What holds of the program that is read from the written tree.
use Rattle.std.specs.Prelude.{List}
use Rattle.java_tree.specs.Syntax.{DeclTree}
use Rattle.java_core.specs.Programs.{Plain}
use Rattle.java_core.specs.Typing.{IsTyped}
use Rattle.java_core.specs.Formed.{IsFormed}
use Rattle.name_rules.specs.Resolves.{Resolves}
use Rattle.fact_model.specs.declared.facts.Facts.{Facts}
use Rattle.fact_model.specs.declared.sets.PointsTo.{PointsTo}
use Rattle.fact_model.specs.declared.sets.Table.{Table}
use Rattle.hier_model.specs.Hierarchies.{Hierarchy}
use Rattle.rebuild_model.specs.Rebuilds.{Rebuilds}
use Rattle.rebuild_laws.specs.types.Rows.{OffersRows}
use Rattle.rebuild_laws.specs.types.Laws.{IsRebuildable}
use Rattle.rebuild_laws.specs.runs.Same.{HasSameRun}
use Rattle.write_model.specs.Written.{java_tree}

-- W keeps all that the old program P is
pub record KeepsProgram (P : Plain) (F : Facts) (H : Hierarchy) (W : Plain) : Type 0 where
  pub rebuilds : Rebuilds P F H W
  pub typed : IsTyped W
  pub rows : OffersRows P F H W rebuilds.places
  pub run : HasSameRun P W

-- P is the program of a text, ready with its facts, sets, table and a hierarchy that breaks no obligation; W any formed program to which the tree
-- resolves that is written of them
unfoldable pub WrittenRuns : Type 0
WrittenRuns = (declarations : List DeclTree) (P W : Plain) (F : Facts) (s : PointsTo) (t : Table) (H : Hierarchy)
    → Resolves declarations P → IsRebuildable P F s t H → Resolves (java_tree P F H) W → IsFormed W → KeepsProgram P F H W
