-- One more method.
use Rattle.std.proofs.Common.{◌++◌, map, ap, ◌∙◌}
use Rattle.java_core.specs.Programs.{program_of, method_seen}
use Rattle.flow_rules.specs.Numbered.{method_rows, method_columns, outline_if, body_at}
use Rattle.flow_facts.specs.Views.{outline_seen, body_seen}
use Rattle.flow_facts.proofs.Steps.{each_step}
use Rattle.flow_facts.proofs.survey.survey.Goals as goal

pub loop-m-preserved : goal.loop-m-preserved
loop-m-preserved c =
    let P = program_of c.args.program.now in
    let s = c.deref-method-items.ensures.value in
    let h = c.loop-m-test.true in
    let at = c.method-item.is in
    let now = c.in-Ok-survey_method.ensures in
    let is = c.code.ensures.value in
    let old = c.loop-m.survey in
    record {
      rows = each_step method_seen (method_rows P) _ _ _ _ _ _ _ s h at c.loop-m.invariant.rows
          (now.rows ∙ ap (λ k. old.rows.items ++ method_rows P c.loop-m.m k) is);
      columns = each_step method_seen (method_columns P) _ _ _ _ _ _ _ s h at c.loop-m.invariant.columns
          (now.columns ∙ ap (λ k. old.columns.items ++ method_columns P c.loop-m.m k) is);
      statics = ap (λ v. v.items) now.statics ∙ c.loop-m.invariant.statics;
      outlines = each_step method_seen (outline_if P) _ _ _ _ _ _ _ s h at c.loop-m.invariant.outlines
          (now.outlines ∙ ap (λ k. map outline_seen old.outlines.items ++ outline_if P c.loop-m.m k) is);
      bodies = each_step method_seen (body_at P) _ _ _ _ _ _ _ s h at c.loop-m.invariant.bodies
          (now.bodies ∙ ap (λ k. map body_seen old.bodies.items ++ body_at P c.loop-m.m k) is);
    }
