use Rattle.std.proofs.Common.{ℕ, ◌<◌}
use Rattle.table_rules.specs.Marks.{IsMarking, IsThisMarked}
use Rattle.table_rules.proofs.raw_table.mark_these.Given as goal

abbrev pub invariant-loop-v : goal.invariant-loop-v
invariant-loop-v l = record {
  step : IsMarking l.facts l.fn.rows l.rows;
  marked : (k : ℕ) → k < l.v → IsThisMarked l.facts l.rows k;
}
