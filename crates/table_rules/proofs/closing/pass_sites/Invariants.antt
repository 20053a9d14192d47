use Rattle.std.proofs.Common.{ℕ, ◌<◌}
use Rattle.std.specs.Bool.{OnFalse}
use Rattle.kaba_bits.specs.Sets.{IsStep}
use Rattle.table_rules.specs.Marks.{AreEntries}
use Rattle.table_rules.specs.Closed.{IsSiteClosed}
use Rattle.table_rules.proofs.closing.pass_sites.Given as goal

abbrev pub invariant-loop-v : goal.invariant-loop-v
invariant-loop-v l = record {
  rows : AreEntries l.given.facts.now l.rows;
  step : IsStep l.fn.rows l.rows l.grew;
  closed : OnFalse l.grew ((k : ℕ) → k < l.v → IsSiteClosed l.given.facts.now l.given.pt.now.rows.items l.rows k);
}
