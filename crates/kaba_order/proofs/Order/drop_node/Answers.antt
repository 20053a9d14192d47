use Rattle.std.proofs.Common.{◌≡◌, length, sym, ◌∙◌, subst, List, Bool, ap, false, set, take, drop, ◌++◌, arith}
use Rattle.std.proofs.lemmas.List.{with_items_is, length-set}
use Rattle.std.proofs.lemmas.Grind.{common_steps}
use Rattle.kaba_bits.specs.Sets.{HasWidth}
use Rattle.kaba_order.specs.Lower.{IsStored}
use Rattle.kaba_order.specs.Orders.{Ordered, IsPartialOrder, IsDropped}
use Rattle.kaba_order.proofs.StepLemmas.{dropped_stored, dropped_live}
use Rattle.kaba_order.proofs.Order.drop_node.Goals as goal
use Rattle.kaba_order.proofs.Order.drop_node.Goals.{After-remove}

left : (c : After-remove) → IsStored
    (record {
      live = c.remove.new.self;
      le = take c.self.inside.le.len (c.drop_from.new.le ++ drop (length c.drop_from.new.le)
          c.self.inside.le.items);
    })
    c.self.inside.lower.items
left c =
    let old = c.args.self.now in
    let n = c.args.n.0 in
    let made : Ordered = record { live = c.remove.new.self; le = c.drop_from.new.le } in
    let order : IsPartialOrder old = subst IsPartialOrder c.self.view_is c.self.invariant.order in
    let live : c.self.inside.live ≡ old.live = ap (λ (o : Ordered). o.live) c.self.view_is in
    let le : c.self.inside.le.items ≡ old.le = ap (λ (o : Ordered). o.le) c.self.view_is in
    let before = c.deref_mut.ensures.value ∙ le in
    let gone = ap (λ r. length r) c.remove.ensures ∙ (length-set c.self.inside.live n false ∙ ap length live) in
    let count : length made.le ≡ length made.live = c.drop_from.ensures.len ∙ (ap length before ∙ (order.count ∙ sym gone)) in
    let widths : HasWidth (length made.live) made.le = subst (λ w. HasWidth w made.le) (sym c.drop_from.ensures.len ∙ count) c.drop_from.ensures.widths in
    let dropped : IsDropped old n made = record {
      count = gone;
      live = dropped_live old.live made.live n (c.remove.ensures ∙ ap (λ r. set r n false) live);
      le = rw before at c.drop_from.ensures.rows;
    } in
    let whole = ap (λ (l : List (List Bool)). let o : Ordered = record { live = made.live; le = l } in o)
    (sym (with_items_is c.self.inside.le made.le (c.drop_from.ensures.len
    ∙ (ap length c.deref_mut.ensures.value ∙ sym c.self.inside.le.ok.0)))) in
    subst (λ o. IsStored o c.self.inside.lower.items) whole
    (dropped_stored old made n order count widths dropped c.self.inside.lower.items (rw (sym le) c.self.invariant.hints))

pub invariant_of-self : goal.invariant_of-self
invariant_of-self c = left (goal.at.invariant_of-self c).After-remove

pub returns-clause-order : goal.returns-clause-order
returns-clause-order c = (left (goal.at.returns-clause-order c).After-remove).order

pub returns-clause-dropped : goal.returns-clause-dropped
returns-clause-dropped c = grind (arith, common_steps)

pub drop_from-requires-clause-n : goal.drop_from-requires-clause-n
drop_from-requires-clause-n c = grind (arith, common_steps)
