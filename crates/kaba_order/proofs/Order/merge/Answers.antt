use Rattle.std.proofs.Common.{◌≡◌, true, length, arith, sym, ◌∙◌, subst, ap, take, drop, ◌++◌}
use Rattle.std.proofs.lemmas.Grind.{common_steps}
use Rattle.kaba_bits.specs.Sets.{bit, row, HasWidth}
use Rattle.kaba_bits.proofs.SetLemmas.{bit-below}
use Rattle.kaba_order.specs.Orders.{Ordered, has_any, is_live, IsPartialOrder, IsMerged, IsLeastMerged}
use Rattle.kaba_order.specs.Formers.{AreBelow}
use Rattle.kaba_order.proofs.BelowLemmas.{below_merged}
use Rattle.kaba_order.proofs.MergeLemmas.{least_merged, among-All}
use Rattle.kaba_order.proofs.StepLemmas.{ordered, stored, stored_both}
use Rattle.kaba_order.proofs.Order.merge.Goals as goal
use Rattle.kaba_order.proofs.Order.merge.Goals.{After-keep_one, After-merge_rows}

-- what is known of the order and of the node that is made of others
known : (c : After-keep_one) → IsPartialOrder c.args.self.now × (c.self.inside.le.items ≡ c.args.self.now.le)
    × (is_live c.args.self.now c.least_of-m.result.0 ≡ true)
known c = (
  subst IsPartialOrder c.self.view_is c.self.invariant.order,
  ap (λ (o : Ordered). o.le) c.self.view_is,
  among-All (λ s. is_live c.args.self.now s ≡ true) c.args.set.now c.requires.live c.least_of-m.result.0 c.least_of-m.ensures.among,
)

pub merge_rows-requires-clause-m : goal.merge_rows-requires-clause-m
merge_rows-requires-clause-m c =
    let k = known (goal.at.merge_rows-requires-clause-m c).After-keep_one in
    omega (arith, bit-below c.args.self.now.live c.least_of-m.result.0 k.2, ap (λ l. length l) (c.deref_mut.ensures.value ∙ k.1), k.0.count)

pub merge_rows-requires-clause-reflexive : goal.merge_rows-requires-clause-reflexive
merge_rows-requires-clause-reflexive c =
    let k = known (goal.at.merge_rows-requires-clause-reflexive c).After-keep_one in
    let m = c.least_of-m.result.0 in
    subst (λ l. bit (row l m) m ≡ true) (sym (c.deref_mut.ensures.value ∙ k.1)) (k.0.reflexive m k.2)

abbrev made : After-merge_rows → Ordered
made c = record { live = c.keep_one.new.live; le = c.merge_rows.new.le }

merged : (c : After-merge_rows) → IsMerged c.args.self.now c.args.set.now c.least_of-m.result.0 (made c)
merged c =
    let before : _ ≡ c.args.self.now.le = c.deref_mut.ensures.value ∙ ap (λ (o : Ordered). o.le) c.self.view_is in
    rw before at c.merge_rows.ensures.rows

least : (c : After-merge_rows) → IsLeastMerged c.args.self.now c.args.set.now c.least_of-m.result.0 (made c)
least c =
    let old = c.args.self.now in
    let set = c.args.set.now in
    let m = c.least_of-m.result.0 in
    let order : IsPartialOrder old = subst IsPartialOrder c.self.view_is c.self.invariant.order in
    let live : c.self.inside.live ≡ old.live = ap (λ (o : Ordered). o.live) c.self.view_is in
    let le : c.self.inside.le.items ≡ old.le = ap (λ (o : Ordered). o.le) c.self.view_is in
    let before = c.deref_mut.ensures.value ∙ le in
    let n_count : length c.keep_one.new.live ≡ length old.live = c.keep_one.ensures.len ∙ ap (λ l. length l) live in
    let n_live = rw live at c.keep_one.ensures.bits in
    let count : length c.merge_rows.new.le ≡ length c.keep_one.new.live = c.merge_rows.ensures.size.len
    ∙ (ap (λ l. length l) before ∙ (order.count ∙ sym n_count)) in
    let widths : HasWidth (length c.keep_one.new.live) c.merge_rows.new.le = subst (λ w. HasWidth w c.merge_rows.new.le) (sym c.merge_rows.ensures.size.len
    ∙ count) c.merge_rows.ensures.size.widths in
    least_merged old (made c) set m order count widths n_count n_live (merged c) c.least_of-m.ensures.among
    (among-All (λ s. is_live old s ≡ true) set c.requires.live) c.requires.none

-- the field after the call is the list that the call left
whole : (c : After-merge_rows) → made c ≡ ordered c.keep_one.new.live (take c.self.inside.le.len (c.merge_rows.new.le ++ drop (length c.merge_rows.new.le)
    c.self.inside.le.items))
whole c = stored c.keep_one.new.live c.self.inside.le c.merge_rows.ensures.size.len c.deref_mut.ensures.value

pub invariant_of-self : goal.invariant_of-self
invariant_of-self c =
    let k = (goal.at.invariant_of-self c).After-merge_rows in
    stored_both k.keep_one.new.live k.self.inside.le k.self.inside.lower k.deref_mut.result.now k.merge_rows.new.le k.merge_rows.new.lower
    k.merge_rows.ensures.size.len k.deref_mut.ensures.value k.self.invariant.hints ((least k).order) k.merge_rows.ensures.lower

pub returns-clause-least : goal.returns-clause-least
returns-clause-least c = subst (IsLeastMerged c.args.self.now c.args.set.now c.least_of-m.result.0)
    (whole (goal.at.returns-clause-least c).After-merge_rows) (least (goal.at.returns-clause-least c).After-merge_rows)

pub returns-clause-pairs : goal.returns-clause-pairs
returns-clause-pairs c = grind (arith, common_steps)

pub keep_one-requires : goal.keep_one-requires
keep_one-requires c = grind (arith, common_steps)

pub returns-clause-low : goal.returns-clause-low
returns-clause-low c =
    let d = (goal.at.returns-clause-low c).After-merge_rows in
    let k = known (goal.at.returns-clause-low c).After-keep_one in
    let m = c.least_of-m.result.0 in
    let left = c.keep_one-2.new.live in
    subst (λ o. AreBelow o c.args.set.now left) (whole d)
    (below_merged c.args.self.now (made d) c.args.set.now m c.args.low.now left (least d).count (merged d) c.least_of-m.ensures.among (k.0.reflexive m k.2)
    c.requires.low c.keep_one-2.ensures.len c.keep_one-2.ensures.bits)

pub merge_rows-requires-clause-low : goal.merge_rows-requires-clause-low
merge_rows-requires-clause-low c = λ a.
    let k = known (goal.at.merge_rows-requires-clause-low c).After-keep_one in
    c.requires.low.exact a ∙ ap (λ l. has_any (row l a) c.args.set.now) (sym (c.deref_mut.ensures.value ∙ k.1))
