use Rattle.std.proofs.Common.{◌≡◌, ℕ, ◌≤◌, ◌<◌, ◌-◌, true, false, length}
use Rattle.kaba_bits.specs.Sets.{bit}
use Rattle.hier_rules.specs.Obligations.{is_nearer}
use Rattle.hier_rules.proofs.touched.has_nearer_rival.Given as goal

abbrev pub invariant-scan : goal.invariant-scan
invariant-scan l = record {
  below : l.at ≤ length l.rivals;
  none : (k : ℕ) → k < l.at → bit l.rivals k ≡ true → is_nearer l.asked.facts.now l.asked.hier.now l.n.0 l.d k ≡ false;
}

abbrev pub decreases-scan : goal.decreases-scan
decreases-scan l = length l.rivals - l.at
