use Rattle.std.proofs.Common.{ℕ, ◌<◌, List, All, subst}
use Rattle.why_table.proofs.CheckLemmas.{follows_exact}
use Rattle.why_table.proofs.check.follows.Goals as goal

pub returns-then-names_earlier : goal.returns-then-names_earlier
returns-then-names_earlier c =
    follows_exact c.args.facts.now c.requires c.args.steps.now c.args.k c.args.step.now c.is_given.result
    (subst (λ (js : List ℕ). All (λ j. j < c.args.k) js) c.deref.ensures.value (c.names_earlier.ensures.0 c.if-names_earlier.true)) c.is_given.ensures
