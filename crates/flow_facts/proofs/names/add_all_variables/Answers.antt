-- The parameters, and then the locals.
use Rattle.flow_facts.proofs.Composed.{then}
use Rattle.flow_facts.proofs.Passed.{on_ok}
use Rattle.flow_facts.proofs.names.add_all_variables.Goals as goal

pub returns : goal.returns
returns c = record { value = on_ok c.add_variables-2.result (λ h. then _ _ _ _ _ c.in-Ok.ensures.value h) c.add_variables-2.ensures.value }
