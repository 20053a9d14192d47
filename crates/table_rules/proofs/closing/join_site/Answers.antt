use Rattle.table_rules.proofs.CloseLemmas.{site_flows}
use Rattle.table_rules.proofs.closing.join_site.Goals as goal

pub join_rows-requires-clause-flows : goal.join_rows-requires-clause-flows
join_rows-requires-clause-flows c = rw c.site_at.ensures (site_flows c.args.given.now.facts.now c.args.v c.args.o c.requires.member)
