use Rattle.std.proofs.Common.{◌≡◌, inl, inr, true, ◌&&◌, ◌||◌, [], ◌∷◌, length, sym, ◌∙◌, subst, ap, ⊎_elim, take, drop, ◌++◌, arith}
use Rattle.std.proofs.lemmas.Bool.{cases_eq, and_parts, or_cases}
use Rattle.std.proofs.lemmas.Grind.{common_steps}
use Rattle.kaba_bits.specs.Sets.{bit, row, HasWidth}
use Rattle.kaba_order.specs.Orders.{Ordered, is_le, IsPartialOrder, IsUnder, IsLeastWith}
use Rattle.kaba_order.specs.Formers.{AreBelow}
use Rattle.kaba_order.proofs.ListLemmas.{has_any_one}
use Rattle.kaba_order.proofs.LowerLemmas.{lower_kept}
use Rattle.kaba_order.proofs.BelowLemmas.{below_under}
use Rattle.kaba_order.proofs.StepLemmas.{least_under, ordered, stored, stored_both}
use Rattle.kaba_order.proofs.Order.close_under.Goals as goal
use Rattle.kaba_order.proofs.Order.close_under.Goals.{After-spread}

abbrev made : After-spread → Ordered
made c = record { live = c.self.inside.live; le = c.spread.new.le }

under : (c : After-spread) → IsUnder c.args.self.now c.args.n.0 c.args.p.0 (made c)
under c a b =
    let old = c.args.self.now in
    let before : _ ≡ old.le = c.deref_mut-2.ensures.value ∙ ap (λ (o : Ordered). o.le) c.self.view_is in
    (rw before at c.spread.ensures.rows) a b
    ∙ ap (λ x. is_le old a b || (x && is_le old c.args.p.0 b)) (c.requires.low.exact a ∙ has_any_one (row old.le a) c.args.n)

least : (c : After-spread) → IsLeastWith c.args.self.now c.args.n.0 c.args.p.0 (made c)
least c =
    let old = c.args.self.now in
    let n = c.args.n.0 in
    let p = c.args.p.0 in
    let order : IsPartialOrder old = subst IsPartialOrder c.self.view_is c.self.invariant.order in
    let live : c.self.inside.live ≡ old.live = ap (λ (o : Ordered). o.live) c.self.view_is in
    let le : c.self.inside.le.items ≡ old.le = ap (λ (o : Ordered). o.le) c.self.view_is in
    let apart : is_le old p n ≡ true → p ≡ n = λ h. ⊎_elim (λ e. e) (λ ne. absurd (c.requires.apart (h, ne))) (cases_eq p n) in
    let before = c.deref_mut-2.ensures.value ∙ le in
    let count : length c.spread.new.le ≡ length c.self.inside.live = c.spread.ensures.len
    ∙ (ap length before ∙ (order.count ∙ ap length (sym live))) in
    let widths : HasWidth (length c.self.inside.live) c.spread.new.le = subst (λ w. HasWidth w c.spread.new.le)
    (sym c.spread.ensures.len ∙ count) c.spread.ensures.widths in
    least_under old (made c) n p order count widths live (under c) c.requires.n c.requires.p apart

-- the field after the call is the list that the call left
whole : (c : After-spread) → made c ≡ ordered c.self.inside.live (take c.self.inside.le.len (c.spread.new.le ++ drop (length c.spread.new.le)
    c.self.inside.le.items))
whole c = stored c.self.inside.live c.self.inside.le c.spread.ensures.len c.deref_mut-2.ensures.value

pub invariant_of-self : goal.invariant_of-self
invariant_of-self c =
    let k = (goal.at.invariant_of-self c).After-spread in
    let old = k.self.inside.le.items in
    let before = k.deref_mut-2.ensures.value in
    let low = k.args.low.now in
    let above = k.row_at.result.now in
    let row_is : above ≡ row old k.args.p.0 = k.row_at.ensures ∙ ap (λ l. row l k.args.p.0) k.deref.ensures.value in
    let gained = rw k.deref_mut.ensures.value at k.add_set.ensures in
    let rows = rw before at k.spread.ensures.rows in
    stored_both k.self.inside.live k.self.inside.le k.self.inside.lower k.deref_mut-2.result.now k.spread.new.le k.add_set.new.lower
    k.spread.ensures.len k.deref_mut-2.ensures.value k.self.invariant.hints (least k).order
    (lower_kept (λ a b. (bit low a ≡ true) × (bit above b ≡ true)) old k.spread.new.le k.self.inside.lower.items k.add_set.new.lower k.self.invariant.hints
    gained (k.spread.ensures.len ∙ ap length before)
    (λ a b h. ⊎_elim inl (λ t. let p = and_parts (bit low a) (bit (row old k.args.p.0) b) t in inr (p.0, ap (λ r. bit r b) row_is ∙ p.1))
    (or_cases (bit (row old a) b) (bit low a && bit (row old k.args.p.0) b) (sym (rows a b) ∙ h))))

pub returns-clause-least : goal.returns-clause-least
returns-clause-least c = subst (IsLeastWith c.args.self.now c.args.n.0 c.args.p.0) (whole (goal.at.returns-clause-least c).After-spread)
    (least (goal.at.returns-clause-least c).After-spread)

pub returns-clause-pairs : goal.returns-clause-pairs
returns-clause-pairs c = subst (IsUnder c.args.self.now c.args.n.0 c.args.p.0) (whole (goal.at.returns-clause-pairs c).After-spread)
    (under (goal.at.returns-clause-pairs c).After-spread)

pub returns-clause-low : goal.returns-clause-low
returns-clause-low c =
    let d = (goal.at.returns-clause-low c).After-spread in
    let live : length c.self.inside.live ≡ length c.args.self.now.live = ap (λ (o : Ordered). length o.live) c.self.view_is in
    subst (λ o. AreBelow o (c.args.n ∷ []) c.args.low.now) (whole d)
    (below_under c.args.self.now (made d) c.args.n c.args.p.0 c.args.low.now live (under d) c.requires.low)

pub spread-requires-clause-p : goal.spread-requires-clause-p
spread-requires-clause-p c = grind (arith, common_steps)
