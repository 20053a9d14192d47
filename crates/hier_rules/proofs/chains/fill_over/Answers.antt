use Rattle.std.proofs.Common.{◌≡◌, true, sym, ◌∙◌, subst}
use Rattle.kaba_order.specs.Orders.{Ordered, is_live}
use Rattle.hier_model.proofs.ClassLemmas.{class_live}
use Rattle.hier_rules.proofs.chains.fill_over.Goals as goal

pub above-requires : goal.above-requires
above-requires c =
    let F = c.args.nodes.now.facts.now in
    let H = c.args.nodes.now.hier.now in
    let n = c.args.n in
    subst (λ (o : Ordered). is_live o n ≡ true) (sym c.order.ensures)
    (class_live F H c.requires.nodes.hier.sized.order n (sym (c.requires.nodes.classes.exact n) ∙ (sym c.has.ensures ∙ c.if-not-has.false)))
