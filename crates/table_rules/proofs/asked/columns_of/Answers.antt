use Rattle.std.proofs.Common.{arith}
use Rattle.fact_model.specs.Entries.{Hides}
use Rattle.table_rules.specs.Closed.{ColumnFlows}
use Rattle.table_rules.proofs.AskLemmas.{no_pairs}
use Rattle.table_rules.proofs.asked.columns_of.Goals as goal

pub note_columns-requires-clause-columns : goal.note_columns-requires-clause-columns
note_columns-requires-clause-columns c =
    let F = c.args.facts.now in
    let n = c.len-count.result in
    let asked = c.in_ok-asked.ensures in
    let hidden = c.in_ok-hidden.ensures in
    record {
      asked = no_pairs F (ColumnFlows F) _ n (omega arith) asked.len asked.widths asked.empty;
      hidden = no_pairs F (Hides F) _ n (omega arith) hidden.len hidden.widths hidden.empty;
    }
