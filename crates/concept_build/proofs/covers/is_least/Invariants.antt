use Rattle.std.proofs.Common.{ℕ, ◌<◌, slice_index_or}
use Rattle.kaba_bits.specs.Sets.{row}
use Rattle.fact_model.specs.Concepts.{IsStrictSubset}
use Rattle.concept_build.specs.Lists.{extents_of}
use Rattle.concept_build.proofs.covers.is_least.Given as goal

abbrev pub invariant-loop-i : goal.invariant-loop-i
invariant-loop-i l = (k d : ℕ) → k < l.i-index → IsStrictSubset (row (extents_of l.items) (slice_index_or l.numbers k d)) (row (extents_of l.items) l.j) → ⊥
