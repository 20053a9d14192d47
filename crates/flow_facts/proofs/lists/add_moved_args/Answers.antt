-- One more argument.
use Rattle.flow_rules.specs.Lists.{moved, point_at}
use Rattle.flow_rules.specs.declared.items.PointItem.TheVariants as point
use Rattle.flow_facts.specs.Seen.{numbers_seen}
use Rattle.flow_facts.proofs.Steps.{each_joined}
use Rattle.flow_facts.proofs.lists.add_moved_args.Goals as goal

pub loop-i-preserved : goal.loop-i-preserved
loop-i-preserved c =
    let N = numbers_seen c.args.n.now in
    each_joined moved (point_at N) (λ j. N.point (point.Local c.args.callee j)) c.args.args.now.items _ c.loop-i.i _ _ _ _ _ _ c.deref-arg-items.ensures.value
    c.loop-i-test.true c.loop-i.invariant c.in-Ok.ensures.value c.point_at.ensures.value c.point-parameter.ensures.value
