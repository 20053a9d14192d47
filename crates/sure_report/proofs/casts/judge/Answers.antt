use Rattle.std.proofs.Common.{◌≡◌, ◌↔◌, ◌+◌, true, take, sym, subst}
use Rattle.sure_report.specs.Report.{AreJudged, AllPass, test_at}
use Rattle.sure_report.proofs.Judged.{judged_more}
use Rattle.sure_report.proofs.casts.judge.Goals as goal

pub loop-x-preserved : goal.loop-x-preserved
loop-x-preserved c =
    subst (λ z. AreJudged (λ x b. (b ≡ true) ↔ AllPass c.args.facts.now c.args.pt.now (test_at c.args.facts.now x.at))
    (take (c.loop-x.x-index + 1) c.args.spots.now) z) (sym c.in_ok-push.ensures.items)
    (judged_more (λ x b. (b ≡ true) ↔ AllPass c.args.facts.now c.args.pt.now (test_at c.args.facts.now x.at)) c.args.spots.now c.loop-x.casts.items
    c.loop-x.x-index _ c.judge_one.result c.loop-x-test.true c.loop-x.invariant c.judge_one.ensures)
