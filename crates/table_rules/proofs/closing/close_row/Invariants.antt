use Rattle.std.proofs.Common.{ℕ, ◌<◌, ◌-◌}
use Rattle.std.specs.Bool.{OnFalse}
use Rattle.kaba_bits.specs.Sets.{IsStep}
use Rattle.table_rules.specs.Marks.{AreEntries}
use Rattle.table_rules.specs.Asked.{IsClosedAt}
use Rattle.table_rules.proofs.closing.close_row.Given as goal

abbrev pub invariant-scan : goal.invariant-scan
invariant-scan l = record {
  rows : AreEntries l.facts l.rows;
  step : IsStep l.fn.rows l.rows l.grew;
  closed : OnFalse l.grew ((d : ℕ) → d < l.at → IsClosedAt l.asked l.r l.rows d);
}

abbrev pub decreases-scan : goal.decreases-scan
decreases-scan l = l.width - l.at
