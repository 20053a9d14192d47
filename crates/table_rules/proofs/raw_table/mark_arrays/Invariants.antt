use Rattle.std.proofs.Common.{ℕ, ◌<◌}
use Rattle.table_rules.specs.Marks.{IsMarking, IsArrayMarked}
use Rattle.table_rules.proofs.raw_table.mark_arrays.Given as goal

abbrev pub invariant-loop-s : goal.invariant-loop-s
invariant-loop-s l = record {
  step : IsMarking l.facts l.fn.rows l.rows;
  marked : (k : ℕ) → k < l.s → IsArrayMarked l.facts l.rows k;
}
