use Rattle.std.proofs.Common.{take}
use Rattle.sure_report.specs.Report.{AreJudged, RunsThese}
use Rattle.sure_report.proofs.calls.judge.Given as goal

abbrev pub invariant-loop-x : goal.invariant-loop-x
invariant-loop-x l = AreJudged (RunsThese l.facts l.pt) (take l.x-index l.spots) l.calls.items
