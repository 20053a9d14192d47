use Rattle.std.proofs.Common.{◌≡◌, ◌≢◌, ℕ, ◌||◌, length, take}
use Rattle.kaba_bits.specs.Sets.{bit, row, HasWidth}
use Rattle.kaba_order.specs.Orders.{any_has}
use Rattle.kaba_order.proofs.merge.gather.Given as goal

abbrev pub invariant-loop-s : goal.invariant-loop-s
invariant-loop-s l = record {
  widths : HasWidth (length l.fn.le) l.le;
  others : (k : ℕ) → k ≢ l.m → row l.le k ≡ row l.fn.le k;
  gathered : (b : ℕ) → bit (row l.le l.m) b ≡ (bit (row l.fn.le l.m) b || any_has l.fn.le (take l.s-index l.set) b);
}
