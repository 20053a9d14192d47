use Rattle.std.proofs.Common.{◌+◌, take, sym, subst}
use Rattle.sure_report.specs.Report.{AreJudged, RunsThese}
use Rattle.sure_report.proofs.Judged.{judged_more}
use Rattle.sure_report.proofs.calls.judge.Goals as goal

pub loop-x-preserved : goal.loop-x-preserved
loop-x-preserved c =
    subst (λ z. AreJudged (RunsThese c.args.facts.now c.args.pt.now) (take (c.loop-x.x-index + 1) c.args.spots.now) z) (sym c.in_ok-push.ensures.items)
    (judged_more (RunsThese c.args.facts.now c.args.pt.now) c.args.spots.now c.loop-x.calls.items c.loop-x.x-index _ c.judge_one.result
    c.loop-x-test.true c.loop-x.invariant c.judge_one.ensures)
