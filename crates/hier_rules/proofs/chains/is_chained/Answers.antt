use Rattle.std.proofs.Common.{◌↔◌, IsTrue, Bool, List, sym, ap, ◌∙◌, subst}
use Rattle.kaba_bits.specs.Sets.{row, IsSubset}
use Rattle.kaba_order.specs.Orders.{Ordered}
use Rattle.hier_rules.proofs.ChainLemmas.{chained_alone, chained_by}
use Rattle.hier_rules.proofs.chains.is_chained.Goals as goal

pub returns-in-None : goal.returns-in-None
returns-in-None c =
    chained_alone c.args.nodes.now.facts.now c.args.nodes.now.hier.now c.requires.nodes.hier.sized.order c.args.n c.args.over.now c.requires.over
    c.in-None.ensures

pub returns-then-has : goal.returns-then-has
returns-then-has c =
    let low = c.lowest-low.result in
    chained_by c.args.nodes.now.facts.now c.args.nodes.now.hier.now c.requires.nodes.hier.sized.order c.args.n c.args.over.now c.requires.over low
    c.lowest-low.ensures (c.requires.chained.each low (sym c.has.ensures ∙ c.if-has.true)) c.is_subset.result
    (subst (λ (r : List Bool). IsTrue c.is_subset.result ↔ IsSubset c.args.over.now r)
    (c.above.ensures ∙ ap (λ (o : Ordered). row o.le low) c.order.ensures) c.is_subset.ensures)
