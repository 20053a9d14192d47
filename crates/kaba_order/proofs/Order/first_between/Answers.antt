use Rattle.std.proofs.Common.{◌≡◌, length, ap, subst, arith}
use Rattle.kaba_bits.proofs.SetLemmas.{bit-below}
use Rattle.kaba_order.specs.Orders.{Ordered, IsPartialOrder}
use Rattle.kaba_order.proofs.MergeLemmas.{any_has_some}
use Rattle.kaba_order.proofs.Order.first_between.Goals as goal

pub returns : goal.returns
returns c = λ x between.
    let o = c.args.self.now in
    let order : IsPartialOrder o = subst IsPartialOrder c.self.view_is c.self.invariant.order in
    let live : length c.self.inside.live ≡ length o.live = ap (λ (o : Ordered). length o.live) c.self.view_is in
    let s = any_has_some o.le c.args.set.now x between.above in
    let lt = bit-below o.live x (order.upper_lives s.0 x s.2) in
    c.loop-x.invariant x (omega (arith, lt, live, c.width-x-end.ensures, c.loop-x-test.false)) between
