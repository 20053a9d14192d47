use Rattle.points_to.specs.Work.{IsSiteShown}
use Rattle.points_to.proofs.RoundLemmas.{IsTurn}
use Rattle.points_to.proofs.closing.close_told.Given as goal

abbrev pub invariant-loop-x : goal.invariant-loop-x
invariant-loop-x l = IsTurn l.facts IsSiteShown l.told l.fn.sets l.sets l.grew l.x-index
