-- One more name.
use Rattle.std.proofs.Common.{refl}
use Rattle.flow_rules.specs.Facts.{FixedName}
use Rattle.flow_facts.specs.Fixed.{fixed_seen}
use Rattle.flow_facts.proofs.Steps.{map_step}
use Rattle.flow_facts.proofs.names.add_fixed.Goals as goal

pub loop-one-preserved : goal.loop-one-preserved
loop-one-preserved c =
    map_step fixed_seen (λ (f : FixedName). f.name) c.args.fixed.now _ _ c.one-item.result _ _ _ refl c.loop-one-test.true c.one-item.is
    c.loop-one.invariant c.in-Ok.ensures.value
