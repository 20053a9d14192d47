use Rattle.std.proofs.Common.{◌≡◌, ◌++◌, drop, map}
use Rattle.hier_model.specs.Edits.{merged_node}
use Rattle.hier_model.proofs.moves.merged_rows.Given as goal

-- with those that are left, it is the whole
abbrev pub invariant-loop-n : goal.invariant-loop-n
invariant-loop-n l = l.merged.items ++ map (merged_node l.set l.least.0) (drop l.n-index l.rows) ≡ map (merged_node l.set l.least.0) l.rows
