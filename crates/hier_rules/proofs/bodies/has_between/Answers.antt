use Rattle.std.proofs.Common.{sym, ◌∙◌}
use Rattle.hier_rules.specs.Obligations.{is_between}
use Rattle.hier_rules.proofs.AnyLemmas.{any_more}
use Rattle.hier_rules.proofs.bodies.has_between.Goals as goal

pub loop-e-preserved : goal.loop-e-preserved
loop-e-preserved c = any_more (is_between c.args.asked.now.facts.now c.args.asked.now.hier.now c.args.r c.args.d) c.loop-e.e c.loop-e.invariant
    (sym c.is_between.ensures
    ∙ c.if-is_between.false)
