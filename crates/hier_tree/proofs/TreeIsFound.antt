-- A tree is always found.
use Rattle.fact_model.specs.declared.facts.Facts.{Facts}
use Rattle.fact_model.specs.declared.sets.PointsTo.{PointsTo}
use Rattle.fact_model.specs.declared.sets.Table.{Table}
use Rattle.fact_model.specs.declared.sets.Lattice.{Lattice}
use Rattle.hier_model.specs.Hierarchies.{Hierarchy}
use Rattle.hier_laws.specs.Laws.{AreAnalysed}
use Rattle.hier_tree.specs.Kept.{IsKept, HasNoInterface}
use Rattle.hier_tree.specs.Reached.{IsReached, begun, dropped, type_named, member_named}
use Rattle.hier_tree.specs.Laws.{TreeIsFound}
use Rattle.hier_tree.proofs.ReachedLemmas.{drop_kept, type_kept, member_kept}
use Rattle.hier_tree.proofs.FoundLemmas.{found}
use Rattle.hier_tree.proofs.StartKept.{start_kept}

module _ (F : Facts) (pt : PointsTo) (t : Table) (l : Lattice) (A : AreAnalysed F pt t l) (N : HasNoInterface F) where
  kept : {H : Hierarchy} → IsReached F pt t l H → IsKept F pt t H
  kept begun = start_kept F pt t l A N
  kept (dropped {H = H} {New = New} n before e) = drop_kept F pt t A.range A.order H (kept before) n New e
  kept (type_named {H = H} {New = New} n name before fresh e) = type_kept F pt t A.range A.order H (kept before) n name New e
  kept (member_named {H = H} {New = New} c name before fresh e) = member_kept F pt t A.range A.order H (kept before) c name fresh New e

pub tree_is_found : TreeIsFound
tree_is_found F pt t l A N H reached log end grows = found F pt t A.range A.order A.sets A.table N (kept F pt t l A N reached) grows
