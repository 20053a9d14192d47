use Rattle.std.proofs.Common.{◌≡◌, map}
use Rattle.std.specs.List.{range_with_len}
use Rattle.hier_model.specs.Edits.{moved_row}
use Rattle.hier_model.proofs.moves.moved_rows.Given as goal

abbrev pub invariant-loop-r : goal.invariant-loop-r
invariant-loop-r l = l.moved.items ≡ map (moved_row l.facts l.rows l.c l.n) (range_with_len 0 l.r)
