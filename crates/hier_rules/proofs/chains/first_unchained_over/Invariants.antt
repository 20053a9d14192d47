use Rattle.std.proofs.Common.{◌≡◌, ◌-◌, ◌≤◌, length, None}
use Rattle.kaba_bits.specs.Sets.{first_below}
use Rattle.hier_rules.specs.Obligations.{unchained}
use Rattle.hier_rules.proofs.chains.first_unchained_over.Given as goal

abbrev pub invariant-scan : goal.invariant-scan
invariant-scan l = record {
  below : l.at ≤ length l.above.over;
  none : first_below l.at (λ x. first_below (length l.nodes.hier.now.order.live) (unchained l.nodes.facts.now l.nodes.hier.now l.n x)) ≡ None;
}

abbrev pub decreases-scan : goal.decreases-scan
decreases-scan l = length l.above.over - l.at
