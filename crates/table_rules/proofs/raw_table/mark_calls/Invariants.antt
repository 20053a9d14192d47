use Rattle.std.specs.List.{AllWithin}
use Rattle.table_rules.specs.Marks.{IsMarking, IsCallMarked}
use Rattle.table_rules.proofs.raw_table.mark_calls.Given as goal

abbrev pub invariant-loop-call : goal.invariant-loop-call
invariant-loop-call l = record {
  step : IsMarking l.facts l.fn.rows l.rows;
  marked : AllWithin (IsCallMarked l.facts l.pt.points.items l.rows) l.facts.calls.items 0 l.call-index;
}
