use Rattle.java_print.proofs.Adding.{margin_more, adds_margin}
use Rattle.java_print.proofs.put.put_margin.Goals as goal

pub loop-preserved : goal.loop-preserved
loop-preserved c = margin_more c.args.into.now.items c.loop.into.items c.push.new.self.items c.loop.counter c.loop.invariant c.in_ok-push.ensures.items

pub returns : goal.returns
returns c = record {
  value = adds_margin c.args.into.now.items c.loop.into.items c.loop.counter c.args.count c.loop.auto.counter-end c.loop-test.false
      c.loop.invariant;
}
