use Rattle.std.proofs.Common.{ℕ, ◌<◌}
use Rattle.table_rules.specs.Marks.{IsMarking, IsNeedMarked}
use Rattle.table_rules.proofs.raw_table.mark_call.Given as goal

abbrev pub invariant-loop-o : goal.invariant-loop-o
invariant-loop-o l = record {
  step : IsMarking l.facts l.fn.rows l.rows;
  marked : (k : ℕ) → k < l.o → IsNeedMarked l.facts l.pt.points.items l.call l.rows k;
}
