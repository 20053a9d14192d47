use Rattle.fact_model.specs.Entries.{by_test}
use Rattle.table_rules.proofs.raw_table.mark_test.Goals as goal

pub mark_type-requires-clause-entries : goal.mark_type-requires-clause-entries
mark_type-requires-clause-entries c = λ k is. by_test c.args.x k c.requires.test is
