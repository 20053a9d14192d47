use Rattle.std.proofs.Common.{◌≡◌, ℕ, ◌<◌, length}
use Rattle.kaba_bits.specs.Sets.{bit, row}
use Rattle.hier_model.specs.Listed.{is_above_concept}
use Rattle.hier_model.proofs.begin.rows_above.Given as goal

abbrev pub invariant-loop-a : goal.invariant-loop-a
invariant-loop-a l = record {
  len : length l.rows.items ≡ l.a;
  widths : (j : ℕ) → j < l.a → length (row l.rows.items j) ≡ length l.concepts;
  rows : (j b : ℕ) → j < l.a → b < length l.concepts → bit (row l.rows.items j) b ≡ is_above_concept l.concepts j b;
}
