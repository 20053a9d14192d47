-- One more field.
use Rattle.std.proofs.Common.{◌∙◌}
use Rattle.java_core.specs.Programs.{field_seen}
use Rattle.flow_rules.specs.Numbered.{field_rows, field_columns, static_points}
use Rattle.flow_facts.proofs.Steps.{each_step}
use Rattle.flow_facts.proofs.survey.survey_fields.Goals as goal

pub loop-f-preserved : goal.loop-f-preserved
loop-f-preserved c =
    let s = c.deref-field-items.ensures.value in
    let h = c.loop-f-test.true in
    let at = c.field-item.is in
    let now = c.in-Ok.ensures in
    record {
      rows = each_step field_seen field_rows _ _ _ _ _ _ _ s h at c.loop-f.invariant.rows now.rows;
      columns = each_step field_seen field_columns _ _ _ _ _ _ _ s h at c.loop-f.invariant.columns now.columns;
      statics = each_step field_seen static_points _ _ _ _ _ _ _ s h at c.loop-f.invariant.statics now.statics;
      outlines = now.outlines ∙ c.loop-f.invariant.outlines;
      bodies = now.bodies ∙ c.loop-f.invariant.bodies;
    }
