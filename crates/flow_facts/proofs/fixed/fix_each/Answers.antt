-- One more site.
use Rattle.std.proofs.Common.{[], ◌∷◌, map, refl}
use Rattle.flow_facts.specs.Fixed.{all_fixed, wished_make}
use Rattle.flow_facts.proofs.Fixing.{before_copied}
use Rattle.flow_facts.proofs.fixed.fix_each.Goals as goal

pub loop-site-preserved : goal.loop-site-preserved
loop-site-preserved c =
    before_copied (λ s. wished_make s ∷ []) (map wished_make) (map wished_make) (λ _ _. refl) (all_fixed c.loop-site.fixing) _ _ c.args.made.now _
    c.loop-site.site-index _ refl c.loop-site-test.true c.loop-site.invariant c.in-Ok.ensures.value
