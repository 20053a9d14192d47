use Rattle.std.proofs.Common.{refl, subst}
use Rattle.kaba_order.specs.Orders.{IsPartialOrder}
use Rattle.kaba_order.proofs.BeyondLemmas.{tells_cover}
use Rattle.kaba_order.proofs.Order.is_cover.Goals as goal

pub returns-then-is_strictly_below : goal.returns-then-is_strictly_below
returns-then-is_strictly_below c =
    let order : IsPartialOrder c.args.self.now = subst IsPartialOrder c.self.view_is c.self.invariant.order in
    tells_cover c.args.self.now c.args.n.0 c.args.b.0 c.args.beyond.now c.has.result order c.requires.beyond
    (c.if-is_strictly_below.ensures.0 refl) c.has.ensures
