use Rattle.std.proofs.Common.{◌≡◌, ◌-◌, ◌<◌, ◌≤◌, length, None}
use Rattle.kaba_bits.specs.Sets.{first_below}
use Rattle.hier_rules.specs.Obligations.{unchained}
use Rattle.hier_rules.proofs.chains.first_unchained_with.Given as goal

abbrev pub invariant-scan : goal.invariant-scan
invariant-scan l = record {
  after : l.x < l.at;
  below : l.at ≤ length l.set;
  none : first_below l.at (unchained l.nodes.facts.now l.nodes.hier.now l.n l.x) ≡ None;
}

abbrev pub decreases-scan : goal.decreases-scan
decreases-scan l = length l.set - l.at
