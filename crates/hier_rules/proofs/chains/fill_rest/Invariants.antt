use Rattle.std.proofs.Common.{◌≡◌, ℕ, ◌<◌, ◌≤◌, ◌-◌, ◌&&◌, not, false, length}
use Rattle.kaba_bits.specs.Sets.{bit}
use Rattle.hier_rules.proofs.chains.fill_rest.Given as goal

abbrev pub invariant-scan : goal.invariant-scan
invariant-scan l = record {
  below : l.at ≤ length l.over;
  width : length l.rest ≡ length l.over;
  done : (x : ℕ) → x < l.at → bit l.rest x ≡ (bit l.over x && not (bit l.ordered x));
  past : (x : ℕ) → l.at ≤ x → bit l.rest x ≡ false;
}

abbrev pub decreases-scan : goal.decreases-scan
decreases-scan l = length l.over - l.at
