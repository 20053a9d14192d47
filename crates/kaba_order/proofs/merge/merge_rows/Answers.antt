use Rattle.std.proofs.Common.{◌≡◌, inl, inr, ⊎_elim, true, ◌∙◌, ◌&&◌, sym, ap}
use Rattle.std.proofs.lemmas.Bool.{and_parts}
use Rattle.kaba_bits.specs.Sets.{bit, row}
use Rattle.kaba_order.specs.Orders.{stays}
use Rattle.kaba_order.proofs.MergeSteps.{closed_rows, had_some, came}
use Rattle.kaba_order.proofs.MergeLemmas.{has_any_some}
use Rattle.kaba_order.proofs.LowerLemmas.{lower_kept}
use Rattle.kaba_order.proofs.merge.merge_rows.Goals as goal

pub drop_others-requires-clause-low : goal.drop_others-requires-clause-low
drop_others-requires-clause-low c = λ a h.
    let set = c.args.set.now in
    let some = has_any_some (row c.spread.new.le a) set h in
    had_some c.args.le.now c.gather.new.le c.spread.new.le set c.args.low.now c.args.m c.requires.among c.requires.reflexive c.requires.low
    c.gather.ensures.others c.gather.ensures.gathered c.spread.ensures.rows a some.0 some.1 some.2

pub returns-clause-rows : goal.returns-clause-rows
returns-clause-rows c = λ a b.
    let set = c.args.set.now in
    let m = c.args.m in
    c.drop_others.ensures.rows a b
    ∙ ap (λ x. x && stays set m a && stays set m b)
    (closed_rows c.args.le.now c.gather.new.le c.spread.new.le set c.args.low.now m c.requires.among c.requires.reflexive c.requires.low
    c.gather.ensures.others c.gather.ensures.gathered c.spread.ensures.rows a b)

pub returns-clause-lower : goal.returns-clause-lower
returns-clause-lower c =
    let set = c.args.set.now in
    let m = c.args.m in
    let low = c.args.low.now in
    let new = c.drop_others.new.le in
    let s = c.spread.new.le in
    let above = c.row_at.result.now in
    lower_kept (λ a b. (bit low a ≡ true) × (bit above b ≡ true)) c.args.le.now new c.args.lower.now c.add_set.new.lower c.requires.lower c.add_set.ensures
    (c.drop_others.ensures.size.len ∙ (c.spread.ensures.len ∙ c.gather.ensures.size.len))
    (λ a b h.
    let x = and_parts (bit (row s a) b && stays set m a) (stays set m b) (sym (c.drop_others.ensures.rows a b) ∙ h) in
    ⊎_elim inl (λ p. inr (p.0, ap (λ r. bit r b) c.row_at.ensures ∙ p.1))
    (came c.args.le.now c.gather.new.le s set low m c.requires.among c.requires.reflexive c.requires.low
    c.gather.ensures.others c.gather.ensures.gathered c.spread.ensures.rows a b (and_parts (bit (row s a) b) (stays set m a) x.0).0))
