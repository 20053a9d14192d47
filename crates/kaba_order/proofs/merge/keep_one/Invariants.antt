use Rattle.std.proofs.Common.{◌≡◌, ℕ, ◌&&◌, length, take}
use Rattle.kaba_bits.specs.Sets.{bit}
use Rattle.kaba_order.specs.Orders.{stays}
use Rattle.kaba_order.proofs.merge.keep_one.Given as goal

abbrev pub invariant-loop-s : goal.invariant-loop-s
invariant-loop-s l = record {
  len : length l.live ≡ length l.fn.live;
  bits : (a : ℕ) → bit l.live a ≡ (bit l.fn.live a && stays (take l.s-index l.set) l.m a);
}
