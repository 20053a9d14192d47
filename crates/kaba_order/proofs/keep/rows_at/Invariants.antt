use Rattle.std.proofs.Common.{◌≡◌, ◌-◌, ◌≤◌, length}
use Rattle.kaba_bits.specs.Sets.{bit, row}
use Rattle.kaba_order.specs.Written.{each_below, only_if}
use Rattle.kaba_order.proofs.keep.rows_at.Given as goal

abbrev pub invariant-scan : goal.invariant-scan
invariant-scan l = record {
  below : l.at ≤ length l.low;
  list : l.rows.items ≡ each_below l.at (λ k. only_if (bit l.low k) (k, row l.le k));
}

abbrev pub decreases-scan : goal.decreases-scan
decreases-scan l = length l.low - l.at
