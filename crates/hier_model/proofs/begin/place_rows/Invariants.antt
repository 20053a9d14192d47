use Rattle.std.proofs.Common.{◌≡◌, ◌==◌, ℕ, ◌<◌, length, take, get_or, None}
use Rattle.std.specs.List.{list_any}
use Rattle.kaba_bits.specs.Sets.{or_else, when}
use Rattle.hier_model.proofs.begin.place_rows.Given as goal

abbrev pub invariant-loop-r : goal.invariant-loop-r
invariant-loop-r l = record {
  len : length l.places ≡ length l.fn.places;
  each : (i : ℕ) → i < length l.fn.places
      → get_or l.places i None ≡ or_else (get_or l.fn.places i None) (when (list_any (λ x. x.0 == i) (take l.r-index l.rows)) l.node);
}
