-- All that is fixed.
use Rattle.std.proofs.Common.{◌++◌, ap, ◌∙◌, map}
use Rattle.java_core.specs.Programs.{program_of}
use Rattle.flow_rules.specs.Facts.{wished_behind}
use Rattle.flow_facts.specs.Fixed.{all_fixed, wished_make}
use Rattle.flow_facts.proofs.Fixing.{fixed_whole}
use Rattle.flow_facts.proofs.fixed.fixed_names.Goals as goal

pub returns : goal.returns
returns c = record {
  value = fixed_whole (program_of c.args.program.now) (record { taken = c.args.taken; fixed = c.new-fixed.result }) c.fix_inits.new.fixing
      c.fix_makes.new.fixing c.args.sites.now.items c.in-Ok-sites_made.made.items c.new-fixed.ensures.items c.requires.taken c.requires.sites
      c.in-Ok-sites_made.ensures.value c.in-Ok.ensures.value
      (λ r. c.in-Ok-fix_makes.ensures.value r ∙ ap (λ l. all_fixed c.fix_inits.new.fixing (wished_behind (map wished_make l) ++ r)) c.as_slice.ensures.value);
}
