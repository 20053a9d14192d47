-- One more field.
use Rattle.std.proofs.Common.{[], ◌∷◌, map, refl, ap, ◌∙◌}
use Rattle.std.proofs.lemmas.List.{map-append}
use Rattle.flow_facts.specs.Seen.{field_cell_seen}
use Rattle.flow_facts.proofs.Steps.{step}
use Rattle.flow_facts.proofs.cells.add_all.Goals as goal

pub loop-field-preserved : goal.loop-field-preserved
loop-field-preserved c =
    step (λ f. field_cell_seen f ∷ []) (map field_cell_seen) (map field_cell_seen) (λ _ _. refl) c.args.fields.now _ _ _ _ _ _ refl
    c.loop-field-test.true c.loop-field.invariant
    (ap (map field_cell_seen) c.in-Ok.ensures.value ∙ map-append field_cell_seen c.loop-field.found.items (_ ∷ []))
