use Rattle.std.proofs.Common.{◌≡◌, ℕ, length, take}
use Rattle.kaba_bits.specs.Sets.{bit}
use Rattle.kaba_order.specs.Orders.{any_has}
use Rattle.kaba_order.proofs.lower.all_lower.Given as goal

abbrev pub invariant-loop-s : goal.invariant-loop-s
invariant-loop-s l = record {
  width : length l.low ≡ l.count;
  bits : (x : ℕ) → bit l.low x ≡ any_has l.lower (take l.s-index l.set) x;
}
