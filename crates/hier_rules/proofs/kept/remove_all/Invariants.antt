use Rattle.std.proofs.Common.{◌≡◌, ℕ, ◌<◌, ◌≤◌, ◌-◌, true, false, length}
use Rattle.kaba_bits.specs.Sets.{bit}
use Rattle.hier_rules.proofs.kept.remove_all.Given as goal

abbrev pub invariant-scan : goal.invariant-scan
invariant-scan l = record {
  below : l.at ≤ length l.low;
  width : length l.set ≡ length l.fn.set;
  was : (x : ℕ) → bit l.set x ≡ true → bit l.fn.set x ≡ true;
  left : (x : ℕ) → x < l.at → bit l.set x ≡ true → bit l.low x ≡ false;
}

abbrev pub decreases-scan : goal.decreases-scan
decreases-scan l = length l.low - l.at
