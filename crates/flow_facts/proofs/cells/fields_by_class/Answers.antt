-- One field more, to those of its class.
use Rattle.std.proofs.Common.{◌==◌, ◌∷◌, [], length, map, sym, ◌∙◌}
use Rattle.std.proofs.lemmas.List.{length-map}
use Rattle.java_core.specs.Programs.{program_of, class_seen}
use Rattle.flow_rules.specs.Ordered.{when}
use Rattle.flow_facts.specs.Owned.{own_of}
use Rattle.flow_facts.specs.Seen.{field_cell_seen}
use Rattle.flow_facts.proofs.Owned.{within_own, kept_one}
use Rattle.flow_facts.proofs.Steps.{step}
use Rattle.flow_facts.proofs.cells.fields_by_class.Goals as goal

pub add_own-requires : goal.add_own-requires
add_own-requires c =
    let all = c.args.program.now.classes.items in
    within_own (program_of c.args.program.now) _ c.args.fields.now.items _ _ _ (length all) c.deref-field-items.ensures.value
    c.loop-field-test.true c.requires c.loop-field.invariant.count (sym (length-map all class_seen))

pub loop-field-preserved : goal.loop-field-preserved
loop-field-preserved c = record {
  count = c.in-Ok-add_own.ensures.count ∙ c.loop-field.invariant.count;
  value = λ k. step (λ x. when (k == (field_cell_seen x).owner) (field_cell_seen x ∷ [])) (λ l. own_of (map field_cell_seen l) k)
      (λ l. own_of (map field_cell_seen l) k) (kept_one k) c.args.fields.now.items _ _ _ _ _ _
      c.deref-field-items.ensures.value c.loop-field-test.true (c.loop-field.invariant.value k) (c.in-Ok-add_own.ensures.value k);
}
