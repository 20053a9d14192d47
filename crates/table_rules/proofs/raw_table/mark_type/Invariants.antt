use Rattle.std.proofs.Common.{ℕ, ◌<◌}
use Rattle.table_rules.specs.Marks.{IsMarking, IsMarkMarkedAt}
use Rattle.table_rules.proofs.raw_table.mark_type.Given as goal

abbrev pub invariant-loop-c : goal.invariant-loop-c
invariant-loop-c l = record {
  step : IsMarking l.facts l.fn.rows l.rows;
  marked : (k : ℕ) → k < l.c → IsMarkMarkedAt l.facts l.r l.class.0 l.rows k;
}
