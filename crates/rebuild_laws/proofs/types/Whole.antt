-- The laws.
use Rattle.java_core.specs.Programs.{Plain}
use Rattle.java_core.specs.Typing.{IsTyped}
use Rattle.java_core.specs.Formed.{IsFormed}
use Rattle.fact_model.specs.declared.facts.Facts.{Facts}
use Rattle.fact_model.specs.declared.sets.PointsTo.{PointsTo}
use Rattle.fact_model.specs.declared.sets.Table.{Table}
use Rattle.hier_model.specs.Hierarchies.{Hierarchy}
use Rattle.rebuild_model.specs.Rebuilds.{Rebuilds}
use Rattle.rebuild_model.specs.Written.{IsWritten}
use Rattle.rebuild_laws.specs.looks.Known.{KnownOfBoth}
use Rattle.rebuild_laws.proofs.given.Given.{known}
use Rattle.rebuild_laws.specs.types.Rows.{OffersRows}
use Rattle.rebuild_laws.specs.types.Laws.{IsRebuildable, WrittenIsTyped, RowsAreOffered}
use Rattle.rebuild_laws.proofs.types.Tables.{same_table}
use Rattle.rebuild_laws.proofs.types.Typed.{written_typed}
use Rattle.rebuild_laws.proofs.types.Rows.{rows_offered}

module _ (P : Plain) (F : Facts) (s : PointsTo) (t : Table) (H : Hierarchy) (W : Plain) (ready : IsRebuildable P F s t H) (new : IsFormed W)
    (b : Rebuilds P F H W) where
  abbrev K : KnownOfBoth P F H W
  K = known P ready.formed F ready.facts s H W new ready.hierarchy ready.unbroken b

  typed : IsWritten P F H W b.places → IsTyped W
  unfolding known
  typed written =
      written_typed K written ready.typed ready.facts s t ready.in_range ready.in_order ready.sets ready.table
      (same_table F H t ready.hierarchy.table ready.table) ready.unbroken ready.hierarchy

  rows : OffersRows P F H W b.places
  unfolding known
  rows = rows_offered K s t ready.in_range ready.in_order ready.sets ready.table (same_table F H t ready.hierarchy.table ready.table) ready.unbroken

pub written_is_typed : WrittenIsTyped
unfolding WrittenIsTyped
written_is_typed = typed

pub rows_are_offered : RowsAreOffered
unfolding RowsAreOffered
rows_are_offered = rows
