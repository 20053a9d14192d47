use Rattle.fact_model.specs.Entries.{by_array}
use Rattle.table_rules.proofs.raw_table.mark_array.Goals as goal

pub mark_type-requires-clause-entries : goal.mark_type-requires-clause-entries
mark_type-requires-clause-entries c =
    let dim = rw c.site_at-site.ensures at c.if-site-gt0.true in
    rw c.site_at-site.ensures (λ k is. by_array c.args.s k c.requires.site dim is)
