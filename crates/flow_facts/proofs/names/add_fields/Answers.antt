-- One more name.
use Rattle.java_core.specs.Programs.{PlainField, field_seen}
use Rattle.flow_facts.proofs.Steps.{map_step}
use Rattle.flow_facts.proofs.names.add_fields.Goals as goal

pub loop-field-preserved : goal.loop-field-preserved
loop-field-preserved c =
    map_step field_seen (λ (x : PlainField). x.name) c.args.program.now.fields.items _ _ c.field-item.result _ _ _ c.deref-field-items.ensures.value
    c.loop-field-test.true c.field-item.is c.loop-field.invariant c.in-Ok.ensures.value
