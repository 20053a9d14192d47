use Rattle.std.proofs.Common.{◌≡◌, ◌++◌, drop, map}
use Rattle.java_core.specs.Programs.{program_of}
use Rattle.flow_rules.specs.Ordered.{each}
use Rattle.flow_rules.specs.Facts.{wished_makes}
use Rattle.flow_facts.specs.Fixed.{wished_make}
use Rattle.flow_facts.proofs.fixed.sites_made.Given as goal

abbrev pub invariant-loop-i : goal.invariant-loop-i
invariant-loop-i l = map wished_make l.made.items ++ each (wished_makes (program_of l.program)) l.i (drop l.i l.sites.items)
    ≡ each (wished_makes (program_of l.program)) 0 l.sites.items
