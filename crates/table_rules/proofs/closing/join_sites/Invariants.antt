use Rattle.std.proofs.Common.{ℕ, ◌<◌, ◌-◌}
use Rattle.std.specs.Bool.{OnFalse}
use Rattle.kaba_bits.specs.Sets.{IsStep}
use Rattle.table_rules.specs.Marks.{AreEntries}
use Rattle.table_rules.specs.Closed.{IsSiteClosedAt}
use Rattle.table_rules.proofs.closing.join_sites.Given as goal

abbrev pub invariant-scan : goal.invariant-scan
invariant-scan l = record {
  rows : AreEntries l.given.facts.now l.rows;
  step : IsStep l.fn.rows l.rows l.grew;
  closed : OnFalse l.grew ((k : ℕ) → k < l.at → IsSiteClosedAt l.given.facts.now l.given.pt.now.rows.items l.v l.rows k);
}

abbrev pub decreases-scan : goal.decreases-scan
decreases-scan l = l.width - l.at
