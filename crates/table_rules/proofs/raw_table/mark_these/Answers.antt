use Rattle.std.proofs.Common.{sym}
use Rattle.fact_model.specs.Entries.{by_this}
use Rattle.table_rules.proofs.raw_table.mark_these.Goals as goal

pub mark-requires-clause-entry : goal.mark-requires-clause-entry
mark-requires-clause-entry c = by_this c.loop-v.v c.in-Some.d (sym c.in-Some.ensures)
