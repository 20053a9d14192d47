-- One more field.
use Rattle.std.proofs.Common.{List, refl, map}
use Rattle.std.specs.List.{flat_map}
use Rattle.fact_model.specs.declared.facts.CellInfo.{CellInfo}
use Rattle.flow_facts.specs.declared.cells.FieldCell.{FieldCell}
use Rattle.flow_facts.specs.Owned.{cell_of}
use Rattle.flow_facts.specs.Seen.{field_cell_seen}
use Rattle.flow_facts.proofs.Steps.{step}
use Rattle.flow_facts.proofs.cells.add_cells.Goals as goal

pub loop-field-preserved : goal.loop-field-preserved
loop-field-preserved c =
    let all : List FieldCell → List CellInfo = λ l. flat_map (cell_of c.args.i) (map field_cell_seen l) in
    step (λ f. cell_of c.args.i (field_cell_seen f)) all all (λ _ _. refl) c.args.fields.now.items _ _ _ _ _ _ c.deref-field-items.ensures.value
    c.loop-field-test.true c.loop-field.invariant c.in-Ok.ensures.value
