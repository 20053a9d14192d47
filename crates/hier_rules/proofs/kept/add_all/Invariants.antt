use Rattle.std.proofs.Common.{◌≡◌, ℕ, false, length, take}
use Rattle.kaba_bits.specs.Sets.{bit}
use Rattle.kaba_order.specs.Orders.{is_among}
use Rattle.hier_rules.proofs.kept.add_all.Given as goal

abbrev pub invariant-loop-n : goal.invariant-loop-n
invariant-loop-n l = record {
  width : length l.set ≡ length l.fn.set;
  off : (x : ℕ) → bit l.set x ≡ false → (bit l.fn.set x ≡ false) × (is_among (take l.n-index l.nodes) x ≡ false);
}
