use Rattle.points_to.specs.Work.{IsReadClosed}
use Rattle.points_to.specs.Rounds.{IsGathered, IsWhole}
use Rattle.points_to.proofs.RoundLemmas.{IsKeeping}
use Rattle.points_to.proofs.closing.close_reads.Given as goal

abbrev pub invariant-loop-x : goal.invariant-loop-x
invariant-loop-x l =
    let F = l.given.facts.now in
    IsGathered F l.union × IsKeeping F (IsReadClosed F l.bases) l.reads l.fn.sets l.sets l.grew l.x-index (IsWhole F l.sets l.union)
