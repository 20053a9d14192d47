use Rattle.std.proofs.Common.{ℕ, ◌<◌, slice_index_or}
use Rattle.kaba_bits.specs.Sets.{row}
use Rattle.concept_build.specs.Lists.{lists_of, pair_at, AreConceptsFound, GrowsList, HasMeet}
use Rattle.concept_build.proofs.intents.add_next.Given as goal

abbrev pub invariant-loop-q : goal.invariant-loop-q
invariant-loop-q l = record {
  found : AreConceptsFound l.source.table.now l.source.width l.items.items (lists_of l.known.keys);
  grows : GrowsList l.fn.items.items l.items.items;
  has : (i d : ℕ) → i < l.q-index → HasMeet l.items.items (pair_at l.fn.items.items l.k).1 (row l.source.table.now (slice_index_or l.q-items i d));
}
