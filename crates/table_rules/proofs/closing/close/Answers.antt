use Rattle.fact_model.specs.Entries.{IsTable}
use Rattle.fact_model.specs.declared.sets.Table.{Table}
use Rattle.table_rules.proofs.CloseLemmas.{closed_table, table-above, table-own}
use Rattle.table_rules.proofs.closing.close.Goals as goal

pub returns : goal.returns
returns c =
    let facts = c.args.facts.now in
    let R = c.requires.facts in
    let t : Table = record { width = c.args.raw.width; rows = c.in_ok-rows.rows } in
    let is : IsTable facts t = closed_table facts R c.args.pt.now c.requires.sets t c.requires.raw.sized.columns c.in_ok-rows.ensures.rows
    c.in_ok-rows.ensures.closed in
    record { table = is; above = table-above facts R t is; own = table-own facts R t is }
