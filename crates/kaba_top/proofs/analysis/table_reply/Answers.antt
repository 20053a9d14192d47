use Rattle.std.proofs.Common.{refl, ap, ◌∙◌, ◌++◌}
use Rattle.lattice_view.specs.Table.{table_text}
use Rattle.kaba_top.proofs.analysis.table_reply.Goals as goal

pub returns : goal.returns
returns c = record {
  table = c.in_ok-table.table;
  is = c.in_ok-table.ensures;
  gives = record {
    status_is = refl;
    out_is = c.in_ok-show_table.ensures.text ∙ ap (λ front. front ++ table_text c.args.facts.now c.in_ok-table.table) c.new-out.ensures.items;
    err_is = c.new.ensures.items;
  };
}
