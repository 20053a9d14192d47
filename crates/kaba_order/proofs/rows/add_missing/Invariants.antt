use Rattle.std.proofs.Common.{◌≡◌, ◌-◌, ◌≤◌, ◌&&◌, not, length}
use Rattle.kaba_bits.specs.Sets.{bit}
use Rattle.kaba_order.proofs.ChangedLemmas.{AreAdded}
use Rattle.kaba_order.proofs.rows.add_missing.Given as goal

abbrev pub invariant-scan : goal.invariant-scan
invariant-scan l = record {
  below : l.at ≤ length l.row;
  width : length l.set ≡ length l.fn.set;
  added : AreAdded (λ b. bit l.row b && not (bit l.other b)) l.fn.set l.at l.set;
}

abbrev pub decreases-scan : goal.decreases-scan
decreases-scan l = length l.row - l.at
