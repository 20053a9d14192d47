-- There is a site.
use Rattle.std.proofs.Common.{sym, ◌∙◌}
use Rattle.flow_facts.specs.Fixed.{all_fixed}
use Rattle.flow_facts.proofs.Fixing.{makes_fixed}
use Rattle.flow_facts.proofs.Passed.{on_ok}
use Rattle.flow_facts.proofs.fixed.fix_makes.Goals as goal

pub returns : goal.returns
returns c = record {
  value = on_ok c.fix_each.result (λ h. makes_fixed (all_fixed c.args.fixing.now) (all_fixed c.fix_holder.new.fixing) (all_fixed c.fix_local.new.fixing)
      (all_fixed c.fix_each.new.fixing) c.args.made.now (sym c.is_empty.ensures ∙ c.if-is_empty.false) c.in-Ok.ensures.value
      c.in-Ok-fix_local.ensures.value h) c.fix_each.ensures.value;
}
