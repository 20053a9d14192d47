use Rattle.java_print.proofs.Adding.{dims_step, dims_end}
use Rattle.java_print.proofs.exprs.put_dims.Goals as goal

pub loop-preserved : goal.loop-preserved
loop-preserved c = dims_step c.args.into.now.items c.loop.into.items c.put_mark.new.into.items c.put_mark-in-loop.new.into.items c.args.count
    c.loop.counter c.loop-test.true c.loop.invariant c.in_ok-put_mark.ensures.value c.in_ok-put_mark-2.ensures.value

pub returns : goal.returns
returns c = record { value = dims_end c.args.into.now.items c.loop.into.items c.args.count c.loop.counter c.loop-test.false c.loop.invariant }
