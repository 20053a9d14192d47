-- One more site.
use Rattle.std.proofs.Common.{[], ◌∷◌, map, refl}
use Rattle.flow_rules.specs.Facts.{site_info}
use Rattle.flow_facts.proofs.Steps.{step}
use Rattle.flow_facts.proofs.infos.site_infos.Goals as goal

pub loop-site-preserved : goal.loop-site-preserved
loop-site-preserved c =
    step (λ s. site_info s ∷ []) (map site_info) (map site_info) (λ _ _. refl) c.args.sites.now.items _ _ _ _ _ _ c.deref-site-items.ensures.value
    c.loop-site-test.true c.loop-site.invariant c.in-Ok.ensures.value
