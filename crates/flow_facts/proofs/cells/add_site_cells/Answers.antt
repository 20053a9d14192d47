-- The fields found are those at or above the class.
use Rattle.std.proofs.Common.{◌++◌, ap, ◌∙◌, map, refl}
use Rattle.std.specs.List.{flat_map}
use Rattle.java_core.specs.Programs.{program_of}
use Rattle.flow_facts.specs.Owned.{own_at, cell_of}
use Rattle.flow_facts.specs.Seen.{field_cell_seen}
use Rattle.flow_facts.proofs.Along.{map-by_place}
use Rattle.flow_facts.proofs.Owned.{cells_above}
use Rattle.flow_facts.proofs.Passed.{on_ok}
use Rattle.flow_facts.proofs.cells.add_site_cells.Goals as goal

pub returns : goal.returns
returns c =
    let fs = map field_cell_seen c.args.fields.now.items in
    record {
      value = rw c.if-site-ne0.false (on_ok c.add_cells.result (λ h. h
          ∙ ap (λ l. c.args.cells.now.items ++ flat_map (cell_of c.args.i) l) (ap (map field_cell_seen) c.in-Ok-by_place.ensures.value
          ∙ map-by_place (λ f. f.column) (λ f. f.column) field_cell_seen (λ _. refl) c.in-Ok.made.items)
          ∙ ap (λ l. c.args.cells.now.items ++ l) (cells_above (program_of c.args.program.now) c.requires.formed fs c.requires.listed
          (own_at c.args.own.now.items) c.requires.own c.args.i c.args.site.now.ty.class _ c.in-Ok.ensures)) c.add_cells.ensures);
    }
