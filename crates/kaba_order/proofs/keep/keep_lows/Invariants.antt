use Rattle.std.proofs.Common.{◌≡◌, ◌-◌, ◌≤◌, length}
use Rattle.kaba_bits.specs.Sets.{row}
use Rattle.kaba_order.specs.Orders.{has_any}
use Rattle.kaba_order.proofs.LowerLemmas.{AreKept}
use Rattle.kaba_order.proofs.keep.keep_lows.Given as goal

abbrev pub invariant-scan : goal.invariant-scan
invariant-scan l = record {
  below : l.at ≤ length l.fn.low;
  width : length l.low ≡ length l.fn.low;
  kept : AreKept (λ k. has_any (row l.le k) l.set) l.at l.low;
}

abbrev pub decreases-scan : goal.decreases-scan
decreases-scan l = length l.fn.low - l.at
