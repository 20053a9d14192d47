use Rattle.std.proofs.Common.{sym, ◌∙◌}
use Rattle.hier_model.proofs.ClassLemmas.{class_live}
use Rattle.hier_rules.proofs.chains.class_le.Goals as goal

pub is_le-requires-clause-a : goal.is_le-requires-clause-a
is_le-requires-clause-a c = class_live c.args.nodes.now.facts.now c.args.nodes.now.hier.now c.requires.nodes.hier.sized.order c.args.a
    (sym (c.requires.nodes.classes.exact c.args.a)
    ∙ c.requires.lower)

pub is_le-requires-clause-b : goal.is_le-requires-clause-b
is_le-requires-clause-b c = class_live c.args.nodes.now.facts.now c.args.nodes.now.hier.now c.requires.nodes.hier.sized.order c.args.b
    (sym (c.requires.nodes.classes.exact c.args.b)
    ∙ c.requires.upper)
