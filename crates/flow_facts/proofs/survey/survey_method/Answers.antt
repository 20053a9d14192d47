use Rattle.std.proofs.Common.{◌≡◌, [], ◌∷◌, ◌++◌, map, Option, Some, None, Bor, refl, sym, ap, ◌∙◌}
use Rattle.std.specs.Option.{is_some, option_copied}
use Rattle.std.specs.declared.vec.Vec.{Vec}
use Rattle.std.specs.declared.alloc.Global.{Global}
use Rattle.std.proofs.lemmas.List.{map-append, append-nil}
use Rattle.java_core.specs.declared.RStmt.{RStmt}
use Rattle.java_core.specs.Trees.{body_seen}
use Rattle.java_core.specs.Programs.{program_of, code_seen}
use Rattle.flow_rules.specs.Ordered.{when}
use Rattle.flow_rules.specs.Numbered.{method_points}
use Rattle.flow_facts.specs.Views.{outline_seen}
use Rattle.flow_facts.proofs.survey.survey_method.Goals as goal
use Rattle.flow_facts.proofs.survey.survey_method.Goals.{then-is_some+in-Ok-method_points+in-Ok-push, else-is_some}

same : (o : Option (Bor (Vec RStmt Global))) → is_some (body_seen (option_copied o)) ≡ is_some o
same None = refl
same (Some v) = refl

pub returns-clause-outlines : goal.returns-clause-outlines
returns-clause-outlines c =
    let P = program_of c.args.of.now.program.now in
    let k = code_seen c.args.of.now.code in
    let old = map outline_seen c.args.survey.now.outlines.items in
    elim c.if-is_some.branch [
      | then-is_some+in-Ok-method_points+in-Ok-push w ↦
          ap (λ s. map outline_seen s.outlines.items) w.survey-is
          ∙ ap (map outline_seen) w.in-Ok-push.ensures.items
          ∙ map-append outline_seen c.args.survey.now.outlines.items _
          ∙ ap (λ p. old ++ record { place = k.tag.place; points = p } ∷ []) (w.in-Ok-method_points.ensures.value P c.in_ok-parts.ensures.value)
          ∙ ap (λ b. old ++ when b (record { place = k.tag.place; points = method_points P c.args.of.now.number k } ∷ []))
          (sym (same c.args.of.now.code.body ∙ sym c.is_some.ensures ∙ w.if-is_some.true))
      | else-is_some w ↦
          ap (λ s. map outline_seen s.outlines.items) w.survey-is
          ∙ sym (append-nil old)
          ∙ ap (λ b. old ++ when b (record { place = k.tag.place; points = method_points P c.args.of.now.number k } ∷ []))
          (sym (same c.args.of.now.code.body ∙ sym c.is_some.ensures ∙ w.if-is_some.false))
    ]
