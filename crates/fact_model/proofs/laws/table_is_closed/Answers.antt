use Rattle.fact_model.proofs.EntryLemmas.{closed_table}
use Rattle.fact_model.proofs.laws.table_is_closed.Goals as goal

pub returns : goal.returns
returns c = closed_table c.args.facts.now c.args.table.now c.requires
