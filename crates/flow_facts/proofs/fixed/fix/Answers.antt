-- The name that is wished, made free.
use Rattle.flow_facts.proofs.Fixing.{fixed_step}
use Rattle.flow_facts.proofs.Passed.{on_ok}
use Rattle.flow_facts.proofs.fixed.fix.Goals as goal

pub returns : goal.returns
returns c = record {
  value = on_ok c.put.result (λ h. fixed_step _ _ _ _ c.args.of c.in-Ok.made _ c.in-Ok.ensures c.in-Ok-add_taken.ensures h) c.put.ensures.value;
}
