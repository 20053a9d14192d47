use Rattle.std.specs.List.{AllWithin}
use Rattle.table_rules.specs.Marks.{RowMarked, IsMarking}
use Rattle.table_rules.proofs.raw_table.mark_entries.Given as goal

abbrev pub invariant-loop-x : goal.invariant-loop-x
invariant-loop-x g l = record {
  step : IsMarking l.facts l.fn.rows l.rows;
  marked : AllWithin (λ x. RowMarked l.rows (g.T.NamesEntry.row_of x) (g.T.NamesEntry.column_of x)) l.items.items 0 l.x-index;
}
