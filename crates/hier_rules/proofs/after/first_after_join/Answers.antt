use Rattle.std.proofs.Common.{length, refl, sym, subst}
use Rattle.hier_rules.specs.Namesakes.{AreClashes}
use Rattle.hier_rules.proofs.IndexLemmas.{outcomes_hold}
use Rattle.hier_rules.proofs.after.first_after_join.Goals as goal

pub first_wrong_outcome_among-requires-clause-others : goal.first_wrong_outcome_among-requires-clause-others
first_wrong_outcome_among-requires-clause-others c =
    outcomes_hold c.args.asked.now.facts.now c.args.asked.now.pt.now c.args.asked.now.hier.now c.args.low.now c.in_ok-sites.sites
    c.requires.kept.outcomes c.in_ok-sites.ensures

pub first_confused_among-requires-clause-clashes : goal.first_confused_among-requires-clause-clashes
first_confused_among-requires-clause-clashes c =
    let F = c.args.asked.now.facts.now in
    let H = c.args.asked.now.hier.now in
    subst (AreClashes F H (length F.columns.items) (length F.columns.items)) (sym c.deref.ensures.value) (c.requires.clashes H refl)
