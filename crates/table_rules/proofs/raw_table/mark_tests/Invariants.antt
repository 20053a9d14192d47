use Rattle.std.specs.List.{AllWithin}
use Rattle.table_rules.specs.Marks.{IsMarking, IsTestMarked}
use Rattle.table_rules.proofs.raw_table.mark_tests.Given as goal

abbrev pub invariant-loop-x : goal.invariant-loop-x
invariant-loop-x l = record {
  step : IsMarking l.facts l.fn.rows l.rows;
  marked : AllWithin (IsTestMarked l.facts l.rows) l.facts.tests.items 0 l.x-index;
}
