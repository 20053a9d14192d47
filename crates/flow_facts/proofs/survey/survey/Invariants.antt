use Rattle.std.proofs.Common.{◌≡◌, ◌++◌, drop, map}
use Rattle.java_core.specs.Programs.{program_of, method_seen}
use Rattle.flow_rules.specs.Ordered.{each}
use Rattle.flow_rules.specs.Numbered.{field_rows, field_columns, static_points, method_rows, method_columns, outline_if, body_at}
use Rattle.flow_facts.specs.Views.{outline_seen, body_seen}
use Rattle.flow_facts.proofs.survey.survey.Given as goal

abbrev pub invariant-loop-m : goal.invariant-loop-m
invariant-loop-m l =
    let P = program_of l.program in
    let rest = map method_seen (drop l.m l.program.methods.items) in
    record {
      rows : l.survey.rows.items ++ each (method_rows P) l.m rest ≡ each field_rows 0 P.fields ++ each (method_rows P) 0 P.methods;
      columns : l.survey.columns.items ++ each (method_columns P) l.m rest ≡ each field_columns 0 P.fields ++ each (method_columns P) 0 P.methods;
      statics : l.survey.statics.items ≡ each static_points 0 P.fields;
      outlines : map outline_seen l.survey.outlines.items ++ each (outline_if P) l.m rest ≡ each (outline_if P) 0 P.methods;
      bodies : map body_seen l.survey.bodies.items ++ each (body_at P) l.m rest ≡ each (body_at P) 0 P.methods;
    }
