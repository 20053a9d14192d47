use Rattle.std.proofs.Common.{ℕ, ◌<◌, ◌≤◌, ◌+◌, ◌-◌, length}
use Rattle.concept_build.specs.Tables.{IsFull}
use Rattle.concept_build.specs.Lists.{lists_of, pair_at, AreConceptsFound, AreNext}
use Rattle.concept_build.proofs.intents.found_items.Given as goal

abbrev pub invariant-loop-k : goal.invariant-loop-k
invariant-loop-k l = record {
  found : AreConceptsFound l.source.table.now l.source.width l.items.items (lists_of l.known.keys);
  some : 0 < length l.items.items;
  full : IsFull l.source.width (pair_at l.items.items 0).1;
  next : length l.items.items ≤ l.source.bound → (i : ℕ) → i < l.k → AreNext l.source.table.now l.items.items i;
}

abbrev pub decreases-loop-k : goal.decreases-loop-k
decreases-loop-k l = (l.source.bound + 1) - l.k
