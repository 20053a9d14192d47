use Rattle.std.proofs.Common.{◌≡◌, ◌++◌, drop, map}
use Rattle.java_core.specs.Programs.{field_seen}
use Rattle.flow_rules.specs.Ordered.{each}
use Rattle.flow_rules.specs.Numbered.{field_rows, field_columns, static_points}
use Rattle.flow_facts.proofs.survey.survey_fields.Given as goal

abbrev pub invariant-loop-f : goal.invariant-loop-f
invariant-loop-f l =
    let all = map field_seen l.program.fields.items in
    let rest = map field_seen (drop l.f l.program.fields.items) in
    record {
      rows : l.survey.rows.items ++ each field_rows l.f rest ≡ l.fn.survey.rows.items ++ each field_rows 0 all;
      columns : l.survey.columns.items ++ each field_columns l.f rest ≡ l.fn.survey.columns.items ++ each field_columns 0 all;
      statics : l.survey.statics.items ++ each static_points l.f rest ≡ l.fn.survey.statics.items ++ each static_points 0 all;
      outlines : l.survey.outlines ≡ l.fn.survey.outlines;
      bodies : l.survey.bodies ≡ l.fn.survey.bodies;
    }
