use Rattle.std.proofs.Common.{◌-◌, ◌≤◌, length}
use Rattle.kaba_bits.specs.Sets.{HasWidth}
use Rattle.kaba_order.proofs.ScanLemmas.{AreChanged, spread_bit}
use Rattle.kaba_order.proofs.rows.spread.Given as goal

abbrev pub invariant-scan : goal.invariant-scan
invariant-scan l = record {
  below : l.at ≤ length l.low;
  widths : HasWidth (length l.fn.le) l.le;
  changed : AreChanged (spread_bit l.fn.le l.low l.p) l.fn.le l.at l.le;
}

abbrev pub decreases-scan : goal.decreases-scan
decreases-scan l = length l.low - l.at
