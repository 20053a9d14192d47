use Rattle.std.proofs.Common.{◌≡◌, ◌==◌, ℕ, ◌<◌, length, take, get_or, None}
use Rattle.std.specs.List.{list_any}
use Rattle.kaba_bits.specs.Sets.{or_else, when}
use Rattle.hier_model.proofs.begin.place_columns.Given as goal

abbrev pub invariant-loop-c : goal.invariant-loop-c
invariant-loop-c l = record {
  len : length l.places ≡ length l.fn.places;
  each : (i : ℕ) → i < length l.fn.places
      → get_or l.places i None ≡ or_else (get_or l.fn.places i None) (when (list_any (λ x. x.0 == i) (take l.c-index l.columns)) l.node);
}
