use Rattle.std.proofs.Common.{◌≡◌, length, ap, sym, subst, ◌∙◌}
use Rattle.kaba_order.specs.Orders.{Ordered, IsPartialOrder}
use Rattle.kaba_order.specs.Written.{written}
use Rattle.kaba_order.proofs.StepLemmas.{ordered, stored_both}
use Rattle.kaba_order.proofs.WrittenLemmas.{length-written}
use Rattle.kaba_order.proofs.Order.put_back.Goals as goal

pub invariant_of-self : goal.invariant_of-self
invariant_of-self c =
    let former = c.requires.2 in
    let old = c.requires.0 in
    let rows = c.args.former.rows.items in
    let before = c.deref_mut.result.now in
    let le : before ≡ c.args.self.now.le = c.deref_mut.ensures.value ∙ ap (λ (o : Ordered). o.le) c.self.view_is in
    let is : c.put_rows.new.le ≡ old.le = c.put_rows.ensures.le ∙ (ap (λ l. written l rows) le ∙ former.le) in
    stored_both c.args.former.live c.self.inside.le c.self.inside.lower before c.put_rows.new.le c.put_rows.new.lower
    (ap (λ l. length l) c.put_rows.ensures.le ∙ length-written before rows) c.deref_mut.ensures.value c.self.invariant.hints
    (subst (λ l. IsPartialOrder (ordered c.args.former.live l)) (sym is)
    (subst (λ l. IsPartialOrder (ordered l old.le)) (sym former.live) c.requires.1))
    c.put_rows.ensures.lower
