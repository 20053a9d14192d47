use Rattle.std.proofs.Common.{◌≡◌, ℕ, length, take}
use Rattle.kaba_bits.specs.Sets.{bit}
use Rattle.kaba_order.specs.Flips.{flip_where, is_flipped, names_node}
use Rattle.kaba_order.proofs.flips.flip_live.Given as goal

abbrev pub invariant-loop-n : goal.invariant-loop-n
invariant-loop-n l = record {
  len : length l.live ≡ length l.fn.live;
  bits : (a : ℕ) → bit l.live a ≡ flip_where (is_flipped (names_node a) (take l.n-index l.nodes)) (bit l.fn.live a);
}
