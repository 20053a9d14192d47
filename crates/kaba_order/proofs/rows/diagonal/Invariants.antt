use Rattle.std.proofs.Common.{◌≡◌, ℕ, length, ◌<◌, ◌==◌}
use Rattle.kaba_bits.specs.Sets.{bit, row, HasWidth}
use Rattle.kaba_order.proofs.rows.diagonal.Given as goal

abbrev pub invariant-loop-a : goal.invariant-loop-a
invariant-loop-a l = record {
  len : length l.rows.items ≡ l.a;
  widths : HasWidth l.count l.rows.items;
  bits : (k b : ℕ) → k < l.a → bit (row l.rows.items k) b ≡ (k == b);
}
