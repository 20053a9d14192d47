use Rattle.points_to.specs.Sound.{AreUnions}
use Rattle.points_to.specs.Closed.{PointsJoined}
use Rattle.points_to.proofs.unions.join_points.Given as goal

abbrev pub invariant-loop-p : goal.invariant-loop-p
invariant-loop-p l = record {
  unions : AreUnions l.facts l.rows;
  joined : PointsJoined l.facts l.points l.rows l.p;
}
