-- Believed. A program that rebuilds a typed one over a hierarchy that breaks no obligation is typed, and offers each
-- row its columns.
use Rattle.std.specs.Prelude.{◌≡◌, None}
use Rattle.java_core.specs.Programs.{Plain}
use Rattle.java_core.specs.Typing.{IsTyped}
use Rattle.java_core.specs.Formed.{IsFormed}
use Rattle.fact_model.specs.InRange.{InRange}
use Rattle.fact_model.specs.InOrder.{InOrder}
use Rattle.fact_model.specs.Flowing.{AreSets}
use Rattle.fact_model.specs.Entries.{IsTable}
use Rattle.fact_model.specs.declared.facts.Facts.{Facts}
use Rattle.fact_model.specs.declared.sets.PointsTo.{PointsTo}
use Rattle.fact_model.specs.declared.sets.Table.{Table}
use Rattle.hier_model.specs.Hierarchies.{Hierarchy, IsHierarchyOf}
use Rattle.hier_rules.specs.First.{first_broken}
use Rattle.flow_rules.specs.Facts.{IsFactsOf}
use Rattle.rebuild_model.specs.Rebuilds.{Rebuilds}
use Rattle.rebuild_model.specs.Written.{IsWritten}
use Rattle.rebuild_laws.specs.types.Rows.{OffersRows}

-- a typed program, its facts with their sets and closed table, and a hierarchy over them that breaks no obligation
pub record IsRebuildable (P : Plain) (F : Facts) (s : PointsTo) (t : Table) (H : Hierarchy) : Type 0 where
  pub formed : IsFormed P
  pub typed : IsTyped P
  pub facts : IsFactsOf P F
  pub in_range : InRange F
  pub in_order : InOrder F
  pub sets : AreSets F s
  pub table : IsTable F t
  pub hierarchy : IsHierarchyOf F H
  pub unbroken : first_broken F s H ≡ None

-- any formed program that rebuilds it, and has what a written one has, is typed
unfoldable pub WrittenIsTyped : Type 0
WrittenIsTyped = (P : Plain) (F : Facts) (s : PointsTo) (t : Table) (H : Hierarchy) (W : Plain) → IsRebuildable P F s t H → IsFormed W
    → (b : Rebuilds P F H W) → IsWritten P F H W b.places → IsTyped W

-- and offers each row its columns
unfoldable pub RowsAreOffered : Type 0
RowsAreOffered = (P : Plain) (F : Facts) (s : PointsTo) (t : Table) (H : Hierarchy) (W : Plain) → IsRebuildable P F s t H → IsFormed W
    → (b : Rebuilds P F H W) → OffersRows P F H W b.places
