-- One more name.
use Rattle.std.proofs.Common.{refl}
use Rattle.flow_rules.specs.Facts.{make_of}
use Rattle.flow_facts.specs.Fixed.{fixed_seen}
use Rattle.flow_facts.proofs.Steps.{flat_step}
use Rattle.flow_facts.proofs.fixed.makes_of.Goals as goal

pub loop-one-preserved : goal.loop-one-preserved
loop-one-preserved c =
    flat_step fixed_seen make_of c.args.fixed.now _ _ c.one-item.result _ _ _ refl c.loop-one-test.true c.one-item.is c.loop-one.invariant
    c.in-Ok.ensures.value
