-- The numbers fit, and what is numbered stands with them.
use Rattle.std.proofs.Common.{◌≡◌, length, arith}
use Rattle.java_core.specs.Programs.{program_of}
use Rattle.flow_rules.specs.Numbered.{rows_of, columns_of, sites_of, points_of}
use Rattle.flow_facts.proofs.Counts.{numbers_are}
use Rattle.flow_facts.proofs.Refusals.{counted, few}
use Rattle.flow_facts.proofs.top.number_whole.Goals as goal

pub overflow_sub-most : goal.overflow_sub-most
overflow_sub-most c =
    let n : c.len-most.result ≡ length c.args.flow.points.items.items = omega (arith, c.args.flow.points.items.ok.0) in
    let k = counted n c.requires.flow.points.items in
    omega (arith, k, c.requires.flow.points.few)

pub invariant_of-numbering : goal.invariant_of-numbering
invariant_of-numbering c =
    let P = program_of c.args.program.now in
    let t = c.requires.table in
    let f = c.requires.flow in
    record {
      few_rows = few (λ r. r.item) _ (rows_of P) 16384 t.rows.keys t.rows.few (omega arith);
      few_columns = few (λ k. k.item) _ (columns_of P) 8192 t.columns.keys t.columns.few (omega arith);
      few_sites = few (λ s. s.number) _ (sites_of P) 8192 f.sites.keys f.sites.few (omega arith);
      few_points = few (λ p. p.item) _ (points_of P) 65536 f.points.keys f.points.few (omega arith);
    }

pub number_cells-requires : goal.number_cells-requires
number_cells-requires c =
    let n : c.len-most.result ≡ length c.args.flow.points.items.items = omega (arith, c.args.flow.points.items.ok.0) in
    let k = counted n c.requires.flow.points.items in
    let t = c.requires.table in
    let f = c.requires.flow in
    record {
      formed = c.requires.formed;
      numbers = numbers_are (program_of c.args.program.now) _ _ _ _ t.rows.keys t.columns.keys
          f.sites.keys f.points.keys;
      of_columns = t.columns.items;
      of_sites = f.sites.items;
      rows = t.rows.few;
      columns = t.columns.few;
      sites = f.sites.few;
      points = omega (arith, k, f.points.few);
    }

pub returns-clause-ok : goal.returns-clause-ok
returns-clause-ok c =
    let t = c.requires.table in
    let f = c.requires.flow in
    record {
      rows = t.rows.items;
      columns = t.columns.items;
      sites = f.sites.items;
      points = f.points.items;
      cells = c.in-Ok.ensures.items;
      bodies = c.requires.bodies;
      numbers = numbers_are (program_of c.args.program.now) _ _ _ _ t.rows.keys t.columns.keys
          f.sites.keys f.points.keys;
      column_items = t.columns.keys;
      site_numbers = f.sites.keys;
      few = t.columns.few;
      few_sites = f.sites.few;
      counts = c.in-Ok.ensures.counts;
    }
