use Rattle.std.proofs.Common.{◌≡◌, map}
use Rattle.std.specs.List.{range_with_len}
use Rattle.hier_model.specs.Listed.{row_node}
use Rattle.hier_model.proofs.begin.row_places.Given as goal

abbrev pub invariant-loop-place : goal.invariant-loop-place
invariant-loop-place l = l.places.items ≡ map (row_node l.concepts) (range_with_len 0 l.place-index)
