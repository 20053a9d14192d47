use Rattle.std.proofs.Common.{◌≡◌, ℕ, ◌==◌, ◌&&◌, length, take}
use Rattle.kaba_bits.specs.Sets.{bit, row, HasWidth}
use Rattle.kaba_order.specs.Lower.{AreLower}
use Rattle.kaba_order.specs.Flips.{flip_where, is_flipped, names_node}
use Rattle.kaba_order.proofs.flips.flip_own.Given as goal

abbrev pub invariant-loop-n : goal.invariant-loop-n
invariant-loop-n l = record {
  widths : HasWidth (length l.fn.le) l.le;
  lower : AreLower l.le l.lower;
  rows : (a b : ℕ) → bit (row l.le a) b ≡ flip_where ((a == b) && is_flipped (names_node a) (take l.n-index l.nodes)) (bit (row l.fn.le a) b);
}
