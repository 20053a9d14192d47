use Rattle.std.proofs.Common.{◌≡◌, ◌-◌, ◌≤◌, length, true}
use Rattle.kaba_bits.specs.Sets.{bit}
use Rattle.hier_rules.proofs.chains.lowest.Given as goal

abbrev pub invariant-scan : goal.invariant-scan
invariant-scan l = record {
  below : l.at ≤ length l.set;
  low : bit l.set l.low ≡ true;
}

abbrev pub decreases-scan : goal.decreases-scan
decreases-scan l = length l.set - l.at
