-- One more class.
use Rattle.std.proofs.Common.{◌+◌, map, refl}
use Rattle.java_core.specs.Programs.{class_seen, program_of}
use Rattle.flow_rules.specs.Ordered.{each}
use Rattle.flow_rules.specs.Facts.{wished_inits}
use Rattle.flow_facts.specs.Fixed.{all_fixed}
use Rattle.flow_facts.proofs.Fixing.{before}
use Rattle.flow_facts.proofs.fixed.fix_inits.Goals as goal

pub loop-c-preserved : goal.loop-c-preserved
loop-c-preserved c =
    let wished = wished_inits (program_of c.args.program.now) in
    before (λ k. wished c.loop-c.c (class_seen k)) (λ l. each wished c.loop-c.c (map class_seen l))
    (λ l. each wished (c.loop-c.c + 1) (map class_seen l)) (λ _ _. refl) (all_fixed c.loop-c.fixing) _ _ c.args.program.now.classes.items _ c.loop-c.c
    c.class-item.result c.deref-class-items.ensures.value
    c.loop-c-test.true c.class-item.is c.loop-c.invariant c.in-Ok.ensures.value
