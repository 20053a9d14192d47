use Rattle.std.proofs.Common.{sym, ap, ◌∙◌, ◌&&◌}
use Rattle.std.proofs.lemmas.Bool.{and_parts}
use Rattle.kaba_order.specs.Orders.{is_le, is_live}
use Rattle.hier_model.proofs.ChangeSteps.{le_lives}
use Rattle.hier_model.proofs.differences.stands_below.Goals as goal

pub returns-else-are_live : goal.returns-else-are_live
returns-else-are_live c =
    let o = c.args.order.now in
    let a = c.args.a.0 in
    let b = c.args.b.0 in
    c.if-are_live.false
    ∙ sym (le_lives o c.requires a b ∙ ap (λ x. x && is_le o a b) (sym c.are_live.ensures ∙ c.if-are_live.false))

pub le-requires-clause-a : goal.le-requires-clause-a
le-requires-clause-a c =
    (and_parts (is_live c.args.order.now c.args.a.0) (is_live c.args.order.now c.args.b.0) (sym c.are_live.ensures ∙ c.if-are_live.true)).0
