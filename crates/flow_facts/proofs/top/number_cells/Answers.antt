use Rattle.std.proofs.Common.{refl, map}
use Rattle.java_core.specs.Programs.{program_of}
use Rattle.flow_rules.specs.Ordered.{each}
use Rattle.flow_rules.specs.Facts.{site_cells}
use Rattle.flow_facts.specs.Seen.{numbers_seen, field_cell_seen}
use Rattle.flow_facts.proofs.Counts.{cells_are}
use Rattle.flow_facts.proofs.Ranged.{fields_listed}
use Rattle.flow_facts.proofs.Refusals.{too_many_cells, all_counted}
use Rattle.flow_facts.proofs.top.number_cells.Goals as goal

pub returns-in-None-clause-refused : goal.returns-in-None-clause-refused
returns-in-None-clause-refused c =
    let P = program_of c.args.program.now in
    let fs = map field_cell_seen c.in-Ok.made.items in
    let xs = each (site_cells P fs) 0 c.args.sites.now.items in
    let r = c.requires in
    let e = cells_are P (numbers_seen c.args.n.now) c.args.columns.now.items c.args.sites.now.items fs xs r.numbers r.of_columns r.of_sites
    c.in-Ok.ensures.value refl in
    too_many_cells P r.rows r.columns r.sites {most = c.args.most} r.points {xs = xs} e (rw c.in-None.is at c.in-Ok-cells_of.ensures.over)

pub returns-clause-items : goal.returns-clause-items
returns-clause-items c =
    let P = program_of c.args.program.now in
    let fs = map field_cell_seen c.in-Ok.made.items in
    let r = c.requires in
    cells_are P (numbers_seen c.args.n.now) c.args.columns.now.items c.args.sites.now.items fs _ r.numbers r.of_columns r.of_sites
    c.in-Ok.ensures.value
    (rw c.in-Some.is at c.in-Ok-cells_of.ensures.value)

pub returns-clause-counts : goal.returns-clause-counts
returns-clause-counts c =
    let P = program_of c.args.program.now in
    let r = c.requires in
    all_counted P r.rows r.columns r.sites {most = c.args.most} r.points {xs = c.in-Some.cells.items} (returns-clause-items c)
    (rw c.in-Some.is at c.in-Ok-cells_of.ensures.over)

pub cells_of-requires-clause-listed : goal.cells_of-requires-clause-listed
cells_of-requires-clause-listed c = fields_listed (program_of c.args.program.now) c.requires.formed (numbers_seen c.args.n.now) c.args.columns.now.items
    (map field_cell_seen c.in-Ok.made.items) c.requires.of_columns c.in-Ok.ensures.value
