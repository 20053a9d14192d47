use Rattle.std.proofs.Common.{◌≡◌, ◌++◌, drop, map}
use Rattle.java_core.specs.Programs.{program_of}
use Rattle.flow_rules.specs.Facts.{column_info}
use Rattle.flow_facts.proofs.infos.column_infos.Given as goal

abbrev pub invariant-loop-column : goal.invariant-loop-column
invariant-loop-column l = l.list.items ++ map (λ c. column_info (program_of l.program) c.item) (drop l.column-index l.columns.items)
    ≡ map (λ c. column_info (program_of l.program) c.item) l.columns.items
