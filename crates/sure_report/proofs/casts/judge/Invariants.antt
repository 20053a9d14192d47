use Rattle.std.proofs.Common.{◌≡◌, ◌↔◌, true, take}
use Rattle.sure_report.specs.Report.{AreJudged, AllPass, test_at}
use Rattle.sure_report.proofs.casts.judge.Given as goal

abbrev pub invariant-loop-x : goal.invariant-loop-x
invariant-loop-x l = AreJudged (λ x b. (b ≡ true) ↔ AllPass l.facts l.pt (test_at l.facts x.at)) (take l.x-index l.spots) l.casts.items
