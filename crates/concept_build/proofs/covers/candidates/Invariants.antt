use Rattle.std.proofs.Common.{◌≡◌, ℕ, ◌<◌, length, slice_index_or}
use Rattle.concept_build.specs.Lists.{extents_of, IsClosure}
use Rattle.concept_build.proofs.covers.candidates.Given as goal

abbrev pub invariant-loop-q : goal.invariant-loop-q
invariant-loop-q l = record {
  len : length l.numbers.items ≡ l.q-index;
  closures : (i d : ℕ) → i < l.q-index → IsClosure (extents_of l.given.items.now) l.k (slice_index_or l.q-items i d) (slice_index_or l.numbers.items i d);
}
