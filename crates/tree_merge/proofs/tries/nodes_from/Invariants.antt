use Rattle.std.proofs.Common.{◌≡◌, ◌&&◌, map}
use Rattle.std.specs.Prelude.{filter}
use Rattle.std.specs.List.{range_with_len}
use Rattle.kaba_order.specs.Orders.{is_live}
use Rattle.hier_model.specs.Hierarchies.{node, origin_of}
use Rattle.hier_tree.specs.Trees.{is_from}
use Rattle.tree_merge.proofs.tries.nodes_from.Given as goal

abbrev pub invariant-loop-n : goal.invariant-loop-n
invariant-loop-n l = l.nodes.items ≡ map node (filter (λ n. is_live l.hier.order n && is_from l.class (origin_of l.hier n)) (range_with_len 0 l.n))
