use Rattle.points_to.specs.Work.{IsEdgeClosed}
use Rattle.points_to.proofs.RoundLemmas.{IsTurn}
use Rattle.points_to.proofs.closing.close_edges.Given as goal

abbrev pub invariant-loop-x : goal.invariant-loop-x
invariant-loop-x l = IsTurn l.given.facts.now (IsEdgeClosed l.given.facts.now) l.edges l.fn.sets l.sets l.grew l.x-index
