use Rattle.std.proofs.Common.{◌≡◌, ◌++◌, drop, map}
use Rattle.java_core.specs.Programs.{program_of}
use Rattle.flow_facts.specs.Seen.{numbers_seen}
use Rattle.flow_rules.specs.Facts.{row_info}
use Rattle.flow_facts.proofs.infos.row_infos.Given as goal

abbrev pub invariant-loop-row : goal.invariant-loop-row
invariant-loop-row l = l.list.items ++ map (row_info (numbers_seen l.given.numbering.now) (program_of l.given.program.now))
    (drop l.row-index l.rows.items)
    ≡ map (row_info (numbers_seen l.given.numbering.now) (program_of l.given.program.now)) l.rows.items
