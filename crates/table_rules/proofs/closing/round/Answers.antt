use Rattle.table_rules.proofs.CloseLemmas.{round_closed}
use Rattle.table_rules.proofs.closing.round.Goals as goal

pub returns-clause-closed : goal.returns-clause-closed
returns-clause-closed c =
    round_closed c.args.given.now.facts.now c.args.given.now.pt.now.rows.items c.ask_rows.new.asked c.args.rows.now c.close_rows-columns.new.rows
    c.pass_ties-ties.new.rows c.pass_sites-sites.new.rows
    c.close_rows-columns.result c.pass_ties-ties.result c.pass_sites-sites.result c.ask_rows.ensures.state.flows c.ask_rows.ensures.asked
    c.close_rows-columns.ensures.step c.close_rows-columns.ensures.closed c.pass_ties-ties.ensures.step c.pass_ties-ties.ensures.closed
    c.pass_sites-sites.ensures.step c.pass_sites-sites.ensures.closed c.pass_sites-sites.ensures.rows
