use Rattle.std.proofs.Common.{◌≡◌, ◌++◌, drop, map}
use Rattle.std.specs.List.{flat_map}
use Rattle.flow_facts.specs.Owned.{cell_of}
use Rattle.flow_facts.specs.Seen.{field_cell_seen}
use Rattle.flow_facts.proofs.cells.add_cells.Given as goal

abbrev pub invariant-loop-field : goal.invariant-loop-field
invariant-loop-field l = l.cells.items ++ flat_map (cell_of l.i) (map field_cell_seen (drop l.field-index l.fields.items)) ≡ l.fn.cells.items
    ++ flat_map (cell_of l.i) (map field_cell_seen l.fields.items)
