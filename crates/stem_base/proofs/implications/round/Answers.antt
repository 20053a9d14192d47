use Rattle.stem_base.proofs.SaturateLemmas.{round_more}
use Rattle.stem_base.proofs.implications.round.Goals as goal

pub loop-x-preserved : goal.loop-x-preserved
loop-x-preserved c =
    round_more c.args.base.now c.loop-x.x-index c.x-item.result c.args.set.now c.loop-x.set c.apply-grew.new.set c.loop-x.grew c.apply-grew.result
    c.loop-x-test.true c.x-item.is c.loop-x.invariant c.apply-grew.ensures
