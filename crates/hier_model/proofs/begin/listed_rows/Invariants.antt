use Rattle.std.proofs.Common.{◌≡◌, ℕ, ◌<◌, length, get_or, None}
use Rattle.kaba_bits.specs.Sets.{first_below, when}
use Rattle.hier_model.specs.Hierarchies.{node}
use Rattle.hier_model.specs.Listed.{lists_row}
use Rattle.hier_model.proofs.begin.listed_rows.Given as goal

abbrev pub invariant-loop-k : goal.invariant-loop-k
invariant-loop-k l = record {
  len : length l.places.items ≡ l.count;
  each : (i : ℕ) → i < l.count → get_or l.places.items i None ≡ first_below l.k (λ k. when (lists_row l.concepts k i) (node k));
}
