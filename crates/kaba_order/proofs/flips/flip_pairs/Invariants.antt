use Rattle.std.proofs.Common.{◌≡◌, ℕ, length, take}
use Rattle.kaba_bits.specs.Sets.{bit, row, HasWidth}
use Rattle.kaba_order.specs.Lower.{AreLower}
use Rattle.kaba_order.specs.Flips.{flip_where, is_flipped, names_pair}
use Rattle.kaba_order.proofs.flips.flip_pairs.Given as goal

abbrev pub invariant-loop-p : goal.invariant-loop-p
invariant-loop-p l = record {
  widths : HasWidth (length l.fn.le) l.le;
  lower : AreLower l.le l.lower;
  rows : (a b : ℕ) → bit (row l.le a) b ≡ flip_where (is_flipped (names_pair a b) (take l.p-index l.pairs)) (bit (row l.fn.le a) b);
}
