use Rattle.std.proofs.Common.{◌<◌, sym, ◌∙◌, subst}
use Rattle.kaba_bits.specs.Sets.{HasWidth}
use Rattle.kaba_order.specs.Lower.{IsStored}
use Rattle.kaba_order.specs.Orders.{Ordered}
use Rattle.kaba_order.proofs.StepLemmas.{discrete_stored}
use Rattle.kaba_order.proofs.Order.discrete.Goals as goal

pub invariant_of-result : goal.invariant_of-result
invariant_of-result c =
    let le = c.in_ok-le.ensures in
    let live = c.in_ok-live.ensures in
    let o : Ordered = record { live = c.in_ok-live.live; le = c.in_ok-le.le.items } in
    subst (IsStored o) (sym (c.in_ok-lower.ensures ∙ c.deref.ensures.value))
    (discrete_stored o
    (le.len ∙ sym live.width)
    (subst (λ w. HasWidth w c.in_ok-le.le.items) (sym live.width) le.widths)
    (λ a b lt. le.bits a b (subst (λ n. a < n) live.width lt))
    (λ a lt. live.full a (subst (λ n. a < n) live.width lt)))
