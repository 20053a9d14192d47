-- One more part of the body.
use Rattle.flow_facts.specs.Views.{part_seen}
use Rattle.flow_facts.proofs.Steps.{flat_step}
use Rattle.flow_facts.proofs.from_part.add_from.Goals as goal

pub loop-part-preserved : goal.loop-part-preserved
loop-part-preserved g c =
    flat_step part_seen g.T.FromPart.given c.args.parts.now.items _ _ c.part-item.result _ _ _ c.deref-part-items.ensures.value c.loop-part-test.true
    c.part-item.is c.loop-part.invariant c.in-Ok.ensures.value
