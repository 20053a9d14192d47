use Rattle.std.proofs.Common.{◌≡◌, length, sym, ◌∙◌, subst, ap, take, drop, ◌++◌}
use Rattle.kaba_bits.specs.Sets.{HasWidth}
use Rattle.kaba_order.specs.Orders.{Ordered, IsPartialOrder}
use Rattle.kaba_order.specs.Flips.{IsFlipped}
use Rattle.kaba_order.proofs.StepLemmas.{ordered, stored, stored_both}
use Rattle.kaba_order.proofs.FlipLemmas.{one_flipped}
use Rattle.kaba_order.proofs.Order.flip.Goals as goal
use Rattle.kaba_order.proofs.Order.flip.Goals.{After-flip_rows}

abbrev made : After-flip_rows → Ordered
made c = record { live = c.flip_live.new.live; le = c.flip_rows.new.le }

flipped : (c : After-flip_rows) → IsFlipped c.args.self.now c.args.nodes.now.items c.args.pairs.now.items (made c)
flipped c =
    let old = c.args.self.now in
    let live : c.self.inside.live ≡ old.live = ap (λ (o : Ordered). o.live) c.self.view_is in
    let le : c.self.inside.le.items ≡ old.le = ap (λ (o : Ordered). o.le) c.self.view_is in
    let before : c.deref_mut.result.now ≡ old.le = c.deref_mut.ensures.value ∙ le in
    record {
      count = c.flip_live.ensures.len ∙ ap length live;
      live = rw (c.deref.ensures.value, live) at c.flip_live.ensures.bits;
      le = rw (c.deref-2.ensures.value, c.deref-3.ensures.value, before) at c.flip_rows.ensures.rows;
    }

partial : (c : After-flip_rows) → IsPartialOrder (made c)
partial c =
    let old = c.args.self.now in
    let order : IsPartialOrder old = subst IsPartialOrder c.self.view_is c.self.invariant.order in
    let live : c.self.inside.live ≡ old.live = ap (λ (o : Ordered). o.live) c.self.view_is in
    let le : c.self.inside.le.items ≡ old.le = ap (λ (o : Ordered). o.le) c.self.view_is in
    let before : c.deref_mut.result.now ≡ old.le = c.deref_mut.ensures.value ∙ le in
    let made_live : length c.flip_live.new.live ≡ length old.live = c.flip_live.ensures.len ∙ ap length live in
    let count : length c.flip_rows.new.le ≡ length c.flip_live.new.live = c.flip_rows.ensures.size.len ∙ (ap length before ∙ (order.count ∙ sym made_live)) in
    let widths : HasWidth (length c.flip_live.new.live) c.flip_rows.new.le =
    subst (λ w. HasWidth w c.flip_rows.new.le) (sym c.flip_rows.ensures.size.len ∙ count) c.flip_rows.ensures.size.widths in
    let other = c.requires.order in
    subst IsPartialOrder
    (sym (one_flipped old (made c) other.0 c.args.nodes.now.items c.args.pairs.now.items (flipped c) other.2 other.1 count widths)) other.1

whole : (c : After-flip_rows) → made c
    ≡ ordered c.flip_live.new.live (take c.self.inside.le.len (c.flip_rows.new.le ++ drop (length c.flip_rows.new.le) c.self.inside.le.items))
whole c = stored c.flip_live.new.live c.self.inside.le {old = c.deref_mut.result.now} {new = c.flip_rows.new.le} c.flip_rows.ensures.size.len
    c.deref_mut.ensures.value

pub invariant_of-self : goal.invariant_of-self
invariant_of-self c =
    let k = (goal.at.invariant_of-self c).After-flip_rows in
    stored_both k.flip_live.new.live k.self.inside.le k.self.inside.lower k.deref_mut.result.now k.flip_rows.new.le k.flip_rows.new.lower
    k.flip_rows.ensures.size.len k.deref_mut.ensures.value k.self.invariant.hints (partial k) k.flip_rows.ensures.lower

pub returns-clause-order : goal.returns-clause-order
returns-clause-order c = let k = (goal.at.returns-clause-order c).After-flip_rows in subst IsPartialOrder (whole k) (partial k)

pub returns-clause-flipped : goal.returns-clause-flipped
returns-clause-flipped c =
    let k = (goal.at.returns-clause-flipped c).After-flip_rows in
    subst (IsFlipped c.args.self.now c.args.nodes.now.items c.args.pairs.now.items) (whole k) (flipped k)
