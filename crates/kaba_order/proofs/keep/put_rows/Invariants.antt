use Rattle.std.proofs.Common.{◌≡◌, ◌<◌, length, All}
use Rattle.kaba_order.specs.Lower.{AreLower}
use Rattle.kaba_order.specs.Written.{written}
use Rattle.kaba_order.proofs.keep.put_rows.Given as goal

abbrev pub invariant-back : goal.invariant-back
invariant-back l = record {
  is : written l.le l.left.items ≡ written l.fn.le l.fn.rows.items;
  lower : AreLower l.le l.lower;
  fits : All (λ x. x.0 < length l.le) l.left.items;
}

abbrev pub decreases-back : goal.decreases-back
decreases-back l = length l.left.items
