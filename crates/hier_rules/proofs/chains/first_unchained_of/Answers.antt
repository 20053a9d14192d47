use Rattle.std.proofs.Common.{sym, ◌∙◌}
use Rattle.hier_rules.proofs.ChainLemmas.{no_second}
use Rattle.hier_rules.proofs.AboveLemmas.{rest_over, rest_none}
use Rattle.hier_rules.proofs.chains.first_unchained_of.Goals as goal

pub first_unchained_with-requires-clause-first : goal.first_unchained_with-requires-clause-first
first_unchained_with-requires-clause-first c = sym (c.requires.above.over c.args.x) ∙ c.requires.first

pub first_unchained_with-requires-clause-each : goal.first_unchained_with-requires-clause-each
first_unchained_with-requires-clause-each c = λ z h. rest_over c.args.nodes.now c.args.n c.args.above.now c.requires.above z h

pub first_unchained_with-requires-clause-others : goal.first_unchained_with-requires-clause-others
first_unchained_with-requires-clause-others c = λ z off.
    rest_none c.args.nodes.now c.args.n c.args.above.now c.requires.above c.requires.nodes.hier.sized.order c.args.x (sym c.has.ensures ∙ c.if-has.true) z off

pub first_unchained_with-requires-2-clause-first : goal.first_unchained_with-requires-2-clause-first
first_unchained_with-requires-2-clause-first c = sym (c.requires.above.over c.args.x) ∙ c.requires.first

pub first_unchained_with-requires-2-clause-each : goal.first_unchained_with-requires-2-clause-each
first_unchained_with-requires-2-clause-each c = λ z h. sym (c.requires.above.over z) ∙ h

pub first_unchained_with-requires-2-clause-others : goal.first_unchained_with-requires-2-clause-others
first_unchained_with-requires-2-clause-others c = λ z off.
    no_second c.args.nodes.now.facts.now c.args.nodes.now.hier.now c.requires.nodes.hier.sized.order c.args.n c.args.above.now.over c.requires.above.over
    c.args.x z off
