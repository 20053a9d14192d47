use Rattle.std.proofs.Common.{◌≡◌, ◌++◌, drop, map}
use Rattle.flow_rules.specs.Ordered.{each}
use Rattle.java_core.specs.Programs.{program_of}
use Rattle.flow_facts.specs.Seen.{numbers_seen}
use Rattle.flow_rules.specs.Facts.{body_seen, column_body}
use Rattle.flow_facts.proofs.infos.body_infos.Given as goal

abbrev pub invariant-loop-c : goal.invariant-loop-c
invariant-loop-c l =
    let given = column_body (numbers_seen l.given.numbering.now) (program_of l.given.program.now) in
    map body_seen l.bodies.items ++ each (λ c k. given c k.item) l.c (drop l.c l.columns.items) ≡ each (λ c k. given c k.item) 0 l.columns.items
