use Rattle.fact_model.proofs.ChainLemmas.{chains}
use Rattle.fact_model.proofs.laws.classes_are_chains.Goals as goal

pub returns : goal.returns
returns c = chains c.args.facts.now c.requires
