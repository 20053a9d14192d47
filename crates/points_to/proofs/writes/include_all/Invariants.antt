use Rattle.points_to.specs.Rounds.{HasRow}
use Rattle.points_to.proofs.RoundLemmas.{IsTurn}
use Rattle.points_to.proofs.writes.include_all.Given as goal

abbrev pub invariant-loop-n : goal.invariant-loop-n
invariant-loop-n l = IsTurn l.facts (HasRow l.extra) l.list l.fn.sets l.sets l.grew l.n-index
