-- One more outline.
use Rattle.std.specs.List.{flat_map}
use Rattle.flow_rules.specs.Numbered.{Outline, listed, number_among, same_row}
use Rattle.flow_facts.specs.Views.{outline_seen}
use Rattle.flow_facts.proofs.Steps.{flat_step}
use Rattle.flow_facts.proofs.numbering.all_points.Goals as goal

pub loop-outline-preserved : goal.loop-outline-preserved
loop-outline-preserved c =
    flat_step outline_seen (λ (o : Outline). flat_map (listed (number_among same_row c.args.rows.now.keys)) o.points) c.args.outlines.now.items _ _
    c.outline-item.result _ _ _ c.deref-outline-items.ensures.value c.loop-outline-test.true c.outline-item.is c.loop-outline.invariant
    c.in-Ok-add_listed.ensures.value
