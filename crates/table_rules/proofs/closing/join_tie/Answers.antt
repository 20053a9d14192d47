use Rattle.table_rules.proofs.CloseLemmas.{tie_flows}
use Rattle.table_rules.proofs.closing.join_tie.Goals as goal

pub join_rows-requires-clause-flows : goal.join_rows-requires-clause-flows
join_rows-requires-clause-flows c = tie_flows c.args.facts.now c.args.x c.requires.tie
