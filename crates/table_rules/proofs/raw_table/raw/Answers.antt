use Rattle.std.proofs.Common.{arith, ◌∙◌}
use Rattle.std.specs.Vec.{with_items}
use Rattle.std.proofs.lemmas.List.{with_items_is}
use Rattle.fact_model.specs.declared.sets.Table.{Table}
use Rattle.table_rules.proofs.RawLemmas.{raw_table}
use Rattle.table_rules.proofs.raw_table.raw.Goals as goal

pub returns : goal.returns
returns c =
    let facts = c.args.facts.now in
    let e = with_items_is c.in_ok-rows.rows c.mark_all.new.rows (omega arith) in
    let t : Table = record { width = c.len-width.result; rows = with_items c.in_ok-rows.rows c.mark_all.new.rows } in
    record {
      table = raw_table facts c.requires.facts c.args.pt.now c.requires.sets t (c.len-width.ensures ∙ facts.columns.ok.0)
          (rw e c.mark_all.ensures.rows) (rw e c.mark_all.ensures.marked);
    }
