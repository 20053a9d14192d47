use Rattle.std.proofs.Common.{◌≡◌, ℕ, ◌&&◌, length, take}
use Rattle.kaba_bits.specs.Sets.{bit, row, HasWidth}
use Rattle.kaba_order.specs.Orders.{stays}
use Rattle.kaba_order.proofs.merge.drop_others.Given as goal

abbrev pub invariant-loop-s : goal.invariant-loop-s
invariant-loop-s l = record {
  widths : HasWidth (length l.fn.le) l.le;
  rows : (a b : ℕ) → bit (row l.le a) b ≡ (bit (row l.fn.le a) b && stays (take l.s-index l.set) l.m a && stays (take l.s-index l.set) l.m b);
}
