use Rattle.points_to.specs.Sound.{AreUnions}
use Rattle.points_to.specs.Closed.{CellsJoined, Grow}
use Rattle.points_to.proofs.unions.join_cells.Given as goal

abbrev pub invariant-loop-c : goal.invariant-loop-c
invariant-loop-c l = record {
  unions : AreUnions l.facts l.rows;
  grows : Grow l.fn.rows l.rows;
  joined : CellsJoined l.facts l.cells l.rows l.c;
}
