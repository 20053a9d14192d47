use Rattle.std.proofs.Common.{◌≡◌, ℕ, ◌<◌, map, take, slice_index_or}
use Rattle.fact_model.specs.declared.sets.Concept.{Concept}
use Rattle.fact_model.specs.Concepts.{pair_of, IsConceptPlaced}
use Rattle.concept_build.specs.Lists.{extents_of}
use Rattle.concept_build.proofs.placed_items.Given as goal

abbrev pub invariant-loop-k : goal.invariant-loop-k
invariant-loop-k l = record {
  pairs : map pair_of l.concepts.items ≡ take l.k l.given.items.now;
  placed : (j : ℕ) (d : Concept) → j < l.k → IsConceptPlaced l.given.table.now l.given.width (extents_of l.given.items.now) j (slice_index_or l.concepts.items j d);
}
