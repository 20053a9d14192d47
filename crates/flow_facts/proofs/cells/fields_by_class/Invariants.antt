-- What is left is still to be added.
use Rattle.std.proofs.Common.{◌≡◌, ℕ, ◌++◌, drop, length, map}
use Rattle.flow_facts.specs.Owned.{own_at, own_of}
use Rattle.flow_facts.specs.Seen.{field_cell_seen}
use Rattle.flow_facts.proofs.cells.fields_by_class.Given as goal

abbrev pub invariant-loop-field : goal.invariant-loop-field
invariant-loop-field l = record {
  count : length l.own.items ≡ length l.program.classes.items;
  value : (c : ℕ) → own_at l.own.items c ++ own_of (map field_cell_seen (drop l.field-index l.fields.items)) c ≡ own_of (map field_cell_seen l.fields.items) c;
}
