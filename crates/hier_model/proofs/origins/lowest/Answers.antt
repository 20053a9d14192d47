use Rattle.std.proofs.Common.{sym}
use Rattle.hier_model.proofs.LowestLemmas.{lowest_is, lowest_none}
use Rattle.hier_model.proofs.origins.lowest.Goals as goal

pub returns-then-is_below_all : goal.returns-then-is_below_all
returns-then-is_below_all c =
    let low = c.lower_of-lower in
    sym (lowest_is c.args.facts.now c.requires.range.acyclic c.args.classes.now low.result low.ensures.member low.ensures.only (sym c.if-is_below_all.ensures))

pub returns-else-is_below_all : goal.returns-else-is_below_all
returns-else-is_below_all c =
    let low = c.lower_of-lower in
    sym (lowest_none c.args.facts.now c.requires.range.acyclic c.args.classes.now low.result low.ensures.only (sym c.if-is_below_all.ensures))
