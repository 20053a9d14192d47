use Rattle.std.proofs.Common.{◌≡◌, ◌++◌, drop, map}
use Rattle.flow_facts.specs.Seen.{field_cell_seen}
use Rattle.flow_facts.proofs.cells.add_all.Given as goal

abbrev pub invariant-loop-field : goal.invariant-loop-field
invariant-loop-field l = map field_cell_seen l.found.items ++ map field_cell_seen (drop l.field-index l.fields) ≡ map field_cell_seen l.fn.found.items
    ++ map field_cell_seen l.fields
