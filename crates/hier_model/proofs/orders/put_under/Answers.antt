use Rattle.std.proofs.Common.{refl}
use Rattle.hier_model.proofs.MergedLemmas.{under_is, under_fault}
use Rattle.hier_model.proofs.orders.put_under.Goals as goal

pub returns-in-Ok-clause-order : goal.returns-in-Ok-clause-order
returns-in-Ok-clause-order c = under_is c.args.order.now c.args.order.now c.put_under.new.self c.args.n.0 c.args.p.0 refl c.in-Ok.ensures.least
    c.in-Ok.ensures.pairs

pub returns-in-Err-clause-fault : goal.returns-in-Err-clause-fault
returns-in-Err-clause-fault c =
    rw c.fault_of.ensures (under_fault c.args.order.now c.args.order.now c.args.n c.args.p c.in-Err.fault refl c.in-Err.ensures.cycle)
