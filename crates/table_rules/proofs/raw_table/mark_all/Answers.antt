use Rattle.table_rules.proofs.RawLemmas.{accesses_raw, supers_raw}
use Rattle.table_rules.proofs.raw_table.mark_all.Goals as goal

pub mark_entries-requires-clause-entries : goal.mark_entries-requires-clause-entries
mark_entries-requires-clause-entries c = accesses_raw c.args.facts.now c.requires.given.facts

pub mark_entries-requires-2-clause-entries : goal.mark_entries-requires-2-clause-entries
mark_entries-requires-2-clause-entries c = supers_raw c.args.facts.now c.requires.given.facts
