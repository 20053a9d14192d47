use Rattle.std.proofs.Common.{◌≡◌, length}
use Rattle.points_to.specs.Work.{IsRunClosed}
use Rattle.points_to.specs.Rounds.{AreBegun}
use Rattle.points_to.proofs.RoundLemmas.{IsKeeping}
use Rattle.points_to.proofs.closing.close_runs.Given as goal

abbrev pub invariant-loop-x : goal.invariant-loop-x
invariant-loop-x l =
    let F = l.given.facts.now in
    (length l.begun.sites ≡ length F.sites.items)
    × IsKeeping F (IsRunClosed F l.bases) l.runs l.fn.sets l.sets l.grew l.x-index (AreBegun F l.sets l.begun)
