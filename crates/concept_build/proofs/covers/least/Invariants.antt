use Rattle.std.proofs.Common.{ℕ, ◌<◌, slice_index_or, All}
use Rattle.std.specs.Prelude.{Contains}
use Rattle.concept_build.specs.Lists.{extents_of, IsLeast}
use Rattle.concept_build.proofs.covers.least.Given as goal

abbrev pub invariant-loop-j : goal.invariant-loop-j
invariant-loop-j l = record {
  sound : All (λ j. Contains l.numbers j × IsLeast (extents_of l.items) l.numbers j) l.above.items;
  whole : (k d : ℕ) → k < l.j-index → IsLeast (extents_of l.items) l.numbers (slice_index_or l.numbers k d)
      → Contains l.above.items (slice_index_or l.numbers k d);
}
