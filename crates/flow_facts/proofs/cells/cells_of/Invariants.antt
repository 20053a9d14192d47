use Rattle.std.proofs.Common.{◌≡◌, ◌++◌, ◌≤◌, drop, map, length}
use Rattle.flow_rules.specs.Ordered.{each}
use Rattle.java_core.specs.Programs.{program_of}
use Rattle.flow_facts.specs.Seen.{field_cell_seen}
use Rattle.flow_rules.specs.Facts.{site_cells}
use Rattle.flow_facts.proofs.cells.cells_of.Given as goal

abbrev pub invariant-loop-i : goal.invariant-loop-i
invariant-loop-i l = record {
  value : l.cells.items ++ each (site_cells (program_of l.program) (map field_cell_seen l.fields.items)) l.i (drop l.i l.sites.items)
      ≡ each (site_cells (program_of l.program) (map field_cell_seen l.fields.items)) 0 l.sites.items;
  most : length l.cells.items ≤ l.most;
}
