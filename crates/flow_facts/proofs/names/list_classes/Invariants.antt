use Rattle.java_core.specs.Programs.{class_seen as plain_class}
use Rattle.std.proofs.Common.{◌≡◌, ◌++◌, drop, map}
use Rattle.flow_rules.specs.Ordered.{each}
use Rattle.java_core.specs.Programs.{program_of}
use Rattle.flow_rules.specs.Facts.{class_facts, class_seen}
use Rattle.flow_facts.proofs.names.list_classes.Given as goal

abbrev pub invariant-loop-c : goal.invariant-loop-c
invariant-loop-c l = map class_seen l.list.items ++ each (class_facts (program_of l.program)) l.c
    (map plain_class (drop l.c l.program.classes.items)) ≡ each (class_facts (program_of l.program)) 0
    (program_of l.program).classes
