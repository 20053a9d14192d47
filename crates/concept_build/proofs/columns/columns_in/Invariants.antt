use Rattle.std.proofs.Common.{◌≡◌, ℕ, ◌<◌, ◌≤◌, false, length, slice_index}
use Rattle.kaba_bits.specs.Sets.{bit, row, HasWidth}
use Rattle.concept_build.proofs.columns.columns_in.Given as goal

abbrev pub invariant-loop-p : goal.invariant-loop-p
invariant-loop-p l = record {
  len : length l.sets.items ≡ l.width;
  widths : HasWidth (length l.rows) l.sets.items;
  done : (c p : ℕ) → p < l.p → bit (row l.sets.items c) p ≡ bit (row l.table (slice_index l.rows p)) c;
  rest : (c p : ℕ) → l.p ≤ p → bit (row l.sets.items c) p ≡ false;
}
