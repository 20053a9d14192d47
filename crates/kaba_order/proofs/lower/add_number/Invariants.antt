use Rattle.std.proofs.Common.{◌≡◌, ◌-◌, ◌≤◌, length}
use Rattle.kaba_order.specs.Lower.{HaveGained}
use Rattle.kaba_order.proofs.LowerLemmas.{below}
use Rattle.kaba_order.proofs.lower.add_number.Given as goal

abbrev pub invariant-scan : goal.invariant-scan
invariant-scan l = record {
  fits : l.at ≤ length l.above;
  gained : HaveGained (below l.at (λ x. x ≡ l.a) l.above) l.fn.lower l.lower;
}

abbrev pub decreases-scan : goal.decreases-scan
decreases-scan l = length l.above - l.at
