use Rattle.kaba_order.specs.Orders.{IsCover, numbers}
use Rattle.kaba_order.proofs.Order.covers.Given as goal
use Rattle.kaba_bits.specs.Sets.{ListsBelow}

abbrev pub invariant-loop-b : goal.invariant-loop-b
invariant-loop-b l = ListsBelow (IsCover l.self l.n.0) l.b (numbers l.above.items)
