-- One more body.
use Rattle.std.specs.List.{flat_map}
use Rattle.flow_rules.specs.Numbered.{BodyParts, form_sites, number_among, same_row}
use Rattle.flow_facts.specs.Views.{body_seen}
use Rattle.flow_facts.proofs.Steps.{flat_step}
use Rattle.flow_facts.proofs.numbering.all_sites.Goals as goal

pub loop-body-preserved : goal.loop-body-preserved
loop-body-preserved c =
    flat_step body_seen (λ (b : BodyParts). flat_map (form_sites (number_among same_row c.args.rows.now.keys)) b.parts) c.args.bodies.now.items _ _
    c.body-item.result _ _ _ c.deref-body-items.ensures.value c.loop-body-test.true c.body-item.is c.loop-body.invariant c.in-Ok.ensures.value
