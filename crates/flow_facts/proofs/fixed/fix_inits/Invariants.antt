use Rattle.std.proofs.Common.{◌≡◌, ◌++◌, List, drop, map}
use Rattle.java_core.specs.Programs.{class_seen, program_of}
use Rattle.flow_rules.specs.Ordered.{each}
use Rattle.flow_rules.specs.Facts.{FixedName, wished_inits}
use Rattle.flow_facts.specs.Fixed.{all_fixed}
use Rattle.flow_facts.proofs.fixed.fix_inits.Given as goal

abbrev pub invariant-loop-c : goal.invariant-loop-c
invariant-loop-c l = (rest : List FixedName) → all_fixed l.fixing (each (wished_inits (program_of l.program)) l.c
    (map class_seen (drop l.c l.program.classes.items)) ++ rest)
    ≡ all_fixed l.fn.fixing (each (wished_inits (program_of l.program)) 0 (map class_seen l.program.classes.items) ++ rest)
