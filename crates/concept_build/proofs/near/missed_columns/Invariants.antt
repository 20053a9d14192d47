use Rattle.std.proofs.Common.{◌≡◌, ℕ, ◌<◌, false, length, slice_index_or, All}
use Rattle.std.specs.Prelude.{Contains}
use Rattle.kaba_bits.specs.Sets.{bit}
use Rattle.concept_build.proofs.near.missed_columns.Given as goal

abbrev pub invariant-loop-c : goal.invariant-loop-c
invariant-loop-c l = record {
  missed : (k d : ℕ) → k < l.c-index → bit l.row (slice_index_or l.c-items k d) ≡ false → Contains l.missed.items (slice_index_or l.c-items k d);
  below : All (λ c. c < length l.row) l.missed.items;
}
