use Rattle.std.proofs.Common.{sym, ◌∙◌}
use Rattle.hier_rules.proofs.OutcomeLemmas.{no_target}
use Rattle.hier_rules.proofs.outcomes.first_wrong_at.Goals as goal

pub returns-then-not-has : goal.returns-then-not-has
returns-then-not-has c =
    sym (no_target c.args.asked.now.facts.now c.args.asked.now.pt.now c.args.asked.now.hier.now c.args.p c.args.t (sym (c.requires.targets c.args.t)
    ∙ sym c.has.ensures ∙ c.if-not-has.true))
