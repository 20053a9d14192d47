use Rattle.std.proofs.Common.{◌≡◌, take}
use Rattle.std.specs.List.{flat_map}
use Rattle.hier_model.specs.Differences.{named_node}
use Rattle.hier_model.proofs.differences.named_nodes.Given as goal

abbrev pub invariant-loop-change : goal.invariant-loop-change
invariant-loop-change l = l.nodes.items ≡ flat_map named_node (take l.change-index l.changes)
