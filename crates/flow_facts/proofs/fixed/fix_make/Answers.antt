use Rattle.std.proofs.Common.{◌∙◌, ap, ◌∷◌, ◌++◌, arith}
use Rattle.std.specs.Prelude.{codes}
use Rattle.flow_rules.specs.Facts as plain
use Rattle.flow_facts.specs.Fixed.{all_fixed}
use Rattle.flow_facts.proofs.Fixing.{make_text}
use Rattle.flow_facts.proofs.Passed.{on_ok}
use Rattle.flow_facts.proofs.fixed.fix_make.Goals as goal

pub returns : goal.returns
returns c = record {
  value = on_ok c.fix.result (λ h rest. h rest
      ∙ ap (λ w. all_fixed c.args.fixing.now (record { for = plain.a_make c.args.number; name = w } ∷ rest))
      (make_text c.in-Ok.made c.args.number (omega (arith, c.ranges.number.fits))
      (c.in-Ok.ensures.value ∙ ap (λ d. codes "make_" ++ d) (c.as_str.ensures.value ∙ c.in_ok-text.ensures.ok)))) c.fix.ensures.value;
}
