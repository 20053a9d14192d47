use Rattle.std.proofs.Common.{◌-◌, ◌≤◌, ◌&&◌, ◌==◌, not, length}
use Rattle.kaba_bits.specs.Sets.{bit, row, HasWidth}
use Rattle.kaba_order.proofs.ScanLemmas.{AreChanged}
use Rattle.kaba_order.proofs.rows.forget.Given as goal

abbrev pub invariant-scan : goal.invariant-scan
invariant-scan l = record {
  below : l.at ≤ length l.low;
  widths : HasWidth (length l.fn.le) l.le;
  changed : AreChanged (λ k b. bit (row l.fn.le k) b && not (b == l.n)) l.fn.le l.at l.le;
}

abbrev pub decreases-scan : goal.decreases-scan
decreases-scan l = length l.low - l.at
