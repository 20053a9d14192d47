use Rattle.std.proofs.Common.{◌≡◌, length, refl, subst, arith}
use Rattle.std.proofs.lemmas.Bool.{false≢true}
use Rattle.kaba_bits.proofs.ListLemmas.{ListsBelow-push, ListsBelow-skip}
use Rattle.kaba_bits.specs.Sets.{ListsBelow}
use Rattle.kaba_order.specs.Orders.{IsCover, numbers}
use Rattle.kaba_order.proofs.ListLemmas.{numbers-push}
use Rattle.kaba_order.proofs.Order.covers.Goals as goal
use Rattle.kaba_order.proofs.Order.covers.Goals.{then-is_cover+in_ok-push, else-is_cover}

pub loop-b-preserved : goal.loop-b-preserved
loop-b-preserved c =
    let P = IsCover c.args.self.now c.args.n.0 in
    let nodes = c.loop-b.above.items in
    let b = c.loop-b.b in
    elim c.if-is_cover.branch [
      | then-is_cover+in_ok-push w ↦ rw (w.above-is, w.in_ok-push.ensures.items, numbers-push nodes (record { 0 = b }))
          (ListsBelow-push P b (numbers nodes) c.loop-b.invariant (w.if-is_cover.ensures.0 refl))
      | else-is_cover w ↦ rw w.above-is (ListsBelow-skip P b (numbers nodes) c.loop-b.invariant (λ h. false≢true (w.if-is_cover.ensures.1 h)))
    ]

pub returns : goal.returns
returns c =
    let e : c.loop-b.b ≡ length c.args.self.now.live = omega (arith, c.loop-b.auto.b-end, c.loop-b-test.false, c.count-b-end.ensures) in
    subst (λ m. ListsBelow (IsCover c.args.self.now c.args.n.0) m (numbers c.loop-b.above.items)) e c.loop-b.invariant
