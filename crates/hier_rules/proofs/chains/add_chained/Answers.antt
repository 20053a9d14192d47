use Rattle.std.proofs.Common.{sym, subst}
use Rattle.hier_rules.specs.Chains.{AreChained}
use Rattle.hier_rules.proofs.ChainLemmas.{gained}
use Rattle.hier_rules.proofs.chains.add_chained.Goals as goal

pub returns : goal.returns
returns c =
    let F = c.args.nodes.now.facts.now in
    let H = c.args.nodes.now.hier.now in
    subst (AreChained F H) (sym c.set.ensures.after)
    (gained F H c.requires.nodes.hier.sized.order c.args.n c.args.over.now c.requires.over c.args.chained.now c.or_into.new.self c.requires.chained
    c.or_into.ensures.width c.or_into.ensures.join c.requires.chain)
