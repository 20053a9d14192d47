use Rattle.std.proofs.Common.{[], ◌∷◌, length, refl, ap}
use Rattle.kaba_order.proofs.FormerLemmas.{under_former}
use Rattle.kaba_order.proofs.Order.put_under.Goals as goal

pub returns-clause-former : goal.returns-clause-former
returns-clause-former c =
    under_former c.args.self.now c.close_under.new.self c.keep.ensures.order c.close_under.ensures.least.order
    (ap length c.close_under.ensures.least.live) (c.args.n ∷ []) c.in_ok-low.low c.in_ok-low.ensures c.in_ok-former.former
    c.in_ok-former.ensures.live c.in_ok-former.ensures.rows
    c.args.n c.args.p.0 refl c.close_under.ensures.pairs
