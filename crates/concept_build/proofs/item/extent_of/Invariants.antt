use Rattle.std.proofs.Common.{◌≡◌, ℕ, ◌<◌, ◌↔◌, true, length, slice_index_or}
use Rattle.kaba_bits.specs.Sets.{bit, row}
use Rattle.concept_build.proofs.item.extent_of.Given as goal

abbrev pub invariant-loop-c : goal.invariant-loop-c
invariant-loop-c l = record {
  len : length l.extent ≡ length l.extents.all;
  bits : (r : ℕ) → ((bit l.extent r ≡ true) ↔ ((bit l.extents.all r ≡ true) × ((k d : ℕ) → k < l.c-index
      → bit (row l.extents.sets.items (slice_index_or l.columns k d)) r ≡ true)));
}
