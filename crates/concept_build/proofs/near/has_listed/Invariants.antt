use Rattle.std.proofs.Common.{◌≡◌, ℕ, ◌<◌, true, slice_index_or}
use Rattle.kaba_bits.specs.Sets.{bit}
use Rattle.concept_build.proofs.near.has_listed.Given as goal

abbrev pub invariant-loop-c : goal.invariant-loop-c
invariant-loop-c l = (k d : ℕ) → k < l.c-index → bit l.row (slice_index_or l.columns k d) ≡ true
