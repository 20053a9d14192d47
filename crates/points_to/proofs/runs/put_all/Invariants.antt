use Rattle.points_to.specs.Rounds.{HasSite}
use Rattle.points_to.proofs.RoundLemmas.{IsTurn}
use Rattle.points_to.proofs.runs.put_all.Given as goal

abbrev pub invariant-loop-n : goal.invariant-loop-n
invariant-loop-n l = IsTurn l.facts (HasSite l.o) l.list l.fn.sets l.sets l.grew l.n-index
