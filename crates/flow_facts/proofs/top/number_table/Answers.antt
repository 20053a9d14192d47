-- What is listed are the rows and the columns of the program.
use Rattle.java_core.specs.Programs.{program_of}
use Rattle.flow_rules.specs.declared.faults.Counted.TheVariants as counted
use Rattle.flow_rules.proofs.Same.{same_rows, same_columns}
use Rattle.flow_facts.proofs.Counts.{rows_are, columns_are, over_rows, over_columns}
use Rattle.flow_facts.proofs.Refusals.{listed_as, refused, above_as}
use Rattle.flow_facts.proofs.top.number_table.Goals as goal

pub returns-in-Err-clause-refused : goal.returns-in-Err-clause-refused
returns-in-Err-clause-refused c =
    let P = program_of c.args.program.now in
    refused P _ 16384 counted.Rows c.in-Err.fault (above_as _ _ _ (rows_are P _ same_rows c.requires.rows) c.in-Err.ensures.refused) (over_rows P)

pub returns-in-Err-number_by_place-clause-refused : goal.returns-in-Err-number_by_place-clause-refused
returns-in-Err-number_by_place-clause-refused c =
    let P = program_of c.args.program.now in
    let rows = listed_as (rows_are P _ same_rows c.requires.rows) c.in-Ok.ensures.ok in
    refused P _ 8192 counted.Columns c.in-Err-number_by_place.fault
    (above_as _ _ _ (columns_are P _ same_columns c.requires.columns) c.in-Err-number_by_place.ensures.refused) (over_columns P rows.few)

pub returns-clause-ok : goal.returns-clause-ok
returns-clause-ok c =
    let P = program_of c.args.program.now in
    record {
      rows = listed_as (rows_are P _ same_rows c.requires.rows) c.in-Ok.ensures.ok;
      columns = listed_as (columns_are P _ same_columns c.requires.columns) c.in-Ok-number_by_place.ensures.ok;
    }
