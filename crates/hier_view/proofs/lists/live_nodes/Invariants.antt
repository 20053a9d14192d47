use Rattle.std.proofs.Common.{◌≡◌, true, All}
use Rattle.kaba_order.specs.Orders.{is_live}
use Rattle.hier_view.specs.Text.{those_below}
use Rattle.hier_view.proofs.lists.live_nodes.Given as goal

abbrev pub invariant-loop-n : goal.invariant-loop-n
invariant-loop-n l = (l.nodes.items ≡ those_below l.n (is_live l.order)) × All (λ n. is_live l.order n ≡ true) l.nodes.items
