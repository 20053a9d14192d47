use Rattle.std.proofs.Common.{◌∙◌, ap, ◌∷◌}
use Rattle.flow_rules.specs.Facts as plain
use Rattle.flow_facts.specs.Fixed.{all_fixed}
use Rattle.flow_facts.proofs.Fixing.{local_text}
use Rattle.flow_facts.proofs.Passed.{on_ok}
use Rattle.flow_facts.proofs.fixed.fix_local.Goals as goal

pub returns : goal.returns
returns c = record {
  value = on_ok c.fix.result (λ h rest. h rest
      ∙ ap (λ w. all_fixed c.args.fixing.now (record { for = plain.the_local; name = w } ∷ rest)) (local_text c.in-Ok.made c.in-Ok.ensures.ok))
      c.fix.ensures.value;
}
