use Rattle.std.proofs.Common.{◌≡◌, ℕ, ◌≤◌, ◌<◌, ◌-◌, true, false, length}
use Rattle.kaba_bits.specs.Sets.{bit}
use Rattle.hier_model.specs.Hierarchies.{stands_at}
use Rattle.hier_rules.proofs.bodies.has_rival_at.Given as goal

abbrev pub invariant-scan : goal.invariant-scan
invariant-scan l = record {
  below : l.at ≤ length l.rivals;
  none : (k : ℕ) → k < l.at → bit l.rivals k ≡ true → stands_at l.asked.hier.now l.n k ≡ false;
}

abbrev pub decreases-scan : goal.decreases-scan
decreases-scan l = length l.rivals - l.at
