use Rattle.kaba_order.proofs.Order.merge_set.Goals as goal

pub returns-clause-cycle : goal.returns-clause-cycle
returns-clause-cycle c = rw c.deref.ensures.value at c.merge_kept.ensures.cycle
