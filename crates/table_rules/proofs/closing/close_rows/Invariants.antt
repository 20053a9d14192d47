use Rattle.std.proofs.Common.{ℕ, ◌<◌}
use Rattle.std.specs.Bool.{OnFalse}
use Rattle.kaba_bits.specs.Sets.{IsStep}
use Rattle.table_rules.specs.Marks.{AreEntries}
use Rattle.table_rules.specs.Asked.{IsRowClosed}
use Rattle.table_rules.proofs.closing.close_rows.Given as goal

abbrev pub invariant-loop-r : goal.invariant-loop-r
invariant-loop-r l = record {
  rows : AreEntries l.facts l.rows;
  step : IsStep l.fn.rows l.rows l.grew;
  closed : OnFalse l.grew ((k : ℕ) → k < l.r → IsRowClosed l.asked l.rows k);
}
