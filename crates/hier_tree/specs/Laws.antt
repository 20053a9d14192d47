-- Mirror. A tree is always found.
use Rattle.std.specs.Prelude.{List}
use Rattle.fact_model.specs.declared.facts.Facts.{Facts}
use Rattle.fact_model.specs.declared.sets.PointsTo.{PointsTo}
use Rattle.fact_model.specs.declared.sets.Table.{Table}
use Rattle.fact_model.specs.declared.sets.Lattice.{Lattice}
use Rattle.hier_model.specs.Hierarchies.{Hierarchy}
use Rattle.hier_tree.specs.Trees.{GrowthStep, GrowthEnd, Tree, Stuck, Grows}
use Rattle.hier_laws.specs.Laws.{AreAnalysed}
use Rattle.hier_tree.specs.Kept.{HasNoInterface}
use Rattle.hier_tree.specs.Reached.{IsReached}

-- the steps end at a tree
abbrev pub IsTree : GrowthEnd → Type 0
IsTree (Tree H) = Unit {0}
IsTree (Stuck H conflict broken) = ⊥

-- where all types are classes, the steps from a start that drops and fresh renames changed end at a tree
abbrev pub TreeIsFound : Type 0
TreeIsFound = (F : Facts) (pt : PointsTo) (t : Table) (l : Lattice) → AreAnalysed F pt t l → HasNoInterface F
    → (H : Hierarchy) → IsReached F pt t l H → (log : List GrowthStep) (end : GrowthEnd) → Grows F pt H log end → IsTree end
