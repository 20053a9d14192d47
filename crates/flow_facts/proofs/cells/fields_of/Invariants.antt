use Rattle.std.proofs.Common.{◌≡◌, ◌++◌, drop, map}
use Rattle.flow_rules.specs.Ordered.{each}
use Rattle.java_core.specs.Programs.{program_of}
use Rattle.flow_facts.specs.Seen.{numbers_seen, field_cell_seen}
use Rattle.flow_rules.specs.Facts.{field_at}
use Rattle.flow_facts.proofs.cells.fields_of.Given as goal

abbrev pub invariant-loop-c : goal.invariant-loop-c
invariant-loop-c l =
    let given = field_at (numbers_seen l.given.numbering.now) (program_of l.given.program.now) in
    map field_cell_seen l.fields.items ++ each (λ c k. given c k.item) l.c (drop l.c l.columns.items) ≡ each (λ c k. given c k.item) 0 l.columns.items
