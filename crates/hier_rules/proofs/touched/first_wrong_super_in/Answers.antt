use Rattle.std.proofs.Common.{sym}
use Rattle.hier_rules.proofs.IndexLemmas.{no_super}
use Rattle.hier_rules.proofs.touched.first_wrong_super_in.Goals as goal

pub returns-then-is_empty : goal.returns-then-is_empty
returns-then-is_empty c =
    sym (no_super c.args.asked.now.facts.now c.args.asked.now.pt.now c.args.asked.now.hier.now c.args.r c.args.bodies.now c.requires.bodies.exact
    (c.is_empty.ensures.empty.0 c.if-is_empty.true))
