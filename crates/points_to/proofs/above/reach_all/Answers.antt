use Rattle.points_to.proofs.AboveLemmas.{gained-more}
use Rattle.points_to.proofs.above.reach_all.Goals as goal

pub loop-x-preserved : goal.loop-x-preserved
loop-x-preserved c = gained-more c.args.more.now c.loop-x.x-index _ _ _ _ _ _ _ c.loop-x-test.true c.loop-x.invariant c.in_ok-reach.ensures
