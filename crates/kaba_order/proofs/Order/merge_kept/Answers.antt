use Rattle.kaba_order.proofs.FormerLemmas.{merged_former}
use Rattle.kaba_order.proofs.Order.merge_kept.Goals as goal

pub returns-clause-former : goal.returns-clause-former
returns-clause-former c =
    merged_former c.args.self.now c.merge-node.new.self c.keep.ensures.order c.merge-node.ensures.least.order c.merge-node.ensures.least.count
    c.args.set.now c.in_ok-low.low c.in_ok-low.ensures c.in_ok-former.former c.in_ok-former.ensures.live c.in_ok-former.ensures.rows
    c.merge-node.result.0 c.merge-node.ensures.pairs
