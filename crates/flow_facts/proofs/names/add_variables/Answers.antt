-- One more name.
use Rattle.java_core.specs.Programs.{PlainLocal, local_seen}
use Rattle.flow_facts.proofs.Steps.{map_step}
use Rattle.flow_facts.proofs.names.add_variables.Goals as goal

pub loop-local-preserved : goal.loop-local-preserved
loop-local-preserved c =
    map_step local_seen (λ (x : PlainLocal). x.name) c.args.locals.now.items _ _ c.local-item.result _ _ _ c.deref-local-items.ensures.value
    c.loop-local-test.true c.local-item.is c.loop-local.invariant c.in-Ok.ensures.value
