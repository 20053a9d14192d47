use Rattle.java_core.proofs.Entries.{entered-more}
use Rattle.java_core.proofs.direct.enter_all.Goals as goal

pub loop-class-preserved : goal.loop-class-preserved
loop-class-preserved c = entered-more c.args.x c.args.classes.now c.loop-class.class-index _ _ _ _ c.loop-class-test.true c.loop-class.invariant
    c.in_ok-enter.ensures
