use Rattle.std.proofs.Common.{ap, ◌∙◌}
use Rattle.fact_model.specs.Taken.{texts}
use Rattle.flow_facts.proofs.Fixing.{free_text}
use Rattle.flow_facts.proofs.fixed.add_taken.Goals as goal

pub returns : goal.returns
returns c = λ free. ap (λ ks. texts ks) c.in_ok-insert_full.ensures.keys
    ∙ free_text c.args.taken.now.keys c.in-Ok.made c.args.name.now (c.in-Ok.ensures.ok ∙ c.as_str.ensures.value) free
