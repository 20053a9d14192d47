use Rattle.std.proofs.Common.{◌≡◌, ◌++◌, drop, map}
use Rattle.std.specs.Option.{option_map}
use Rattle.hier_model.specs.Edits.{merged_node}
use Rattle.hier_model.proofs.moves.merged_columns.Given as goal

-- with those that are left, it is the whole
abbrev pub invariant-loop-place : goal.invariant-loop-place
invariant-loop-place l = l.merged.items ++ map (option_map (merged_node l.set l.least.0)) (drop l.place-index l.columns)
    ≡ map (option_map (merged_node l.set l.least.0)) l.columns
