-- The names of one more method.
use Rattle.java_core.specs.Programs.{method_seen}
use Rattle.flow_rules.specs.Facts.{maker_names}
use Rattle.flow_facts.proofs.Steps.{flat_step}
use Rattle.flow_facts.proofs.names.add_makers.Goals as goal

pub loop-method-preserved : goal.loop-method-preserved
loop-method-preserved c =
    flat_step method_seen maker_names c.args.program.now.methods.items _ _ c.method-item.result _ _ _ c.deref-method-items.ensures.value
    c.loop-method-test.true c.method-item.is c.loop-method.invariant c.in-Ok.ensures.value
