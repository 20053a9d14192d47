-- Mirror. The start meets its obligations.
use Rattle.fact_model.specs.InRange.{InRange}
use Rattle.fact_model.specs.InOrder.{InOrder}
use Rattle.fact_model.specs.Flowing.{AreSets}
use Rattle.fact_model.specs.Entries.{IsTable}
use Rattle.fact_model.specs.Concepts.{IsLatticeOf}
use Rattle.fact_model.specs.declared.facts.Facts.{Facts}
use Rattle.fact_model.specs.declared.sets.PointsTo.{PointsTo}
use Rattle.fact_model.specs.declared.sets.Table.{Table}
use Rattle.fact_model.specs.declared.sets.Lattice.{Lattice}
use Rattle.hier_model.specs.Start.{start_from}
use Rattle.hier_rules.specs.First.{MeetsEdit}

-- facts in order, their sets, their closed table, and its concept lattice
pub record AreAnalysed (F : Facts) (pt : PointsTo) (t : Table) (l : Lattice) : Type 0 where
  pub range : InRange F
  pub order : InOrder F
  pub sets : AreSets F pt
  pub table : IsTable F t
  pub lattice : IsLatticeOf t l

-- the hierarchy of the lattice meets B2 to B8
abbrev pub StartMeets : Type 0
StartMeets = (F : Facts) (pt : PointsTo) (t : Table) (l : Lattice) → AreAnalysed F pt t l → MeetsEdit F pt (start_from F t l)
