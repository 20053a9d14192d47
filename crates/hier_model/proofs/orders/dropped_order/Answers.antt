use Rattle.hier_model.proofs.MergedLemmas.{dropped_is}
use Rattle.hier_model.proofs.orders.dropped_order.Goals as goal

pub returns : goal.returns
returns c = dropped_is c.args.order.now c.in_ok-dropped.dropped c.drop_node.new.self c.args.n.0 c.drop_node.ensures.order c.in_ok-dropped.ensures
    c.drop_node.ensures.dropped
