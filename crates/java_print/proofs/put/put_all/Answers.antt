use Rattle.java_print.proofs.Adding.{all_more}
use Rattle.java_print.proofs.put.put_all.Goals as goal

pub loop-c-preserved : goal.loop-c-preserved
loop-c-preserved c = all_more c.args.into.now.items c.loop-c.into.items c.put_written.new.into.items c.args.chars.now c.loop-c.c-index c.c-item.result
    c.loop-c-test.true c.c-item.is c.loop-c.invariant c.in_ok-put_written.ensures.value
