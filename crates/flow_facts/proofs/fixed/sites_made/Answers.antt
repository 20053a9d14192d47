-- One more site.
use Rattle.java_core.specs.Programs.{program_of}
use Rattle.flow_rules.specs.Facts.{wished_makes}
use Rattle.flow_facts.proofs.Steps.{each_at}
use Rattle.flow_facts.proofs.fixed.sites_made.Goals as goal

pub loop-i-preserved : goal.loop-i-preserved
loop-i-preserved c =
    each_at (wished_makes (program_of c.args.program.now)) c.args.sites.now.items _ c.loop-i.i _ _ _ _ c.deref-site-items.ensures.value
    c.loop-i-test.true c.loop-i.invariant c.in-Ok.ensures.value
