use Rattle.fact_model.proofs.ShownLemmas.{closed_sets}
use Rattle.fact_model.proofs.laws.sets_are_closed.Goals as goal

pub returns : goal.returns
returns c = closed_sets c.args.facts.now c.args.sets.now c.requires
