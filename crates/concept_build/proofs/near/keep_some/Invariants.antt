use Rattle.std.proofs.Common.{◌≡◌, ℕ, ◌<◌, false, length, slice_index_or}
use Rattle.kaba_bits.specs.Sets.{bit, row}
use Rattle.concept_build.proofs.near.keep_some.Given as goal

abbrev pub invariant-loop-c : goal.invariant-loop-c
invariant-loop-c l = record {
  len : length l.some ≡ length l.left;
  none : (p k d : ℕ) → bit l.some p ≡ false → k < l.c-index → bit (row l.sets (slice_index_or l.listed k d)) p ≡ false;
}
