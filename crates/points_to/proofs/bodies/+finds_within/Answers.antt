use Rattle.std.proofs.Common.{◌<◌, ◌∙◌, sym, arith}
use Rattle.fact_model.proofs.ClassLemmas.{finds_within-up}
use Rattle.points_to.proofs.bodies.+finds_within.Goals as goal

pub returns-in-Some-parent : goal.returns-in-Some-parent
returns-in-Some-parent t c =
    let some : 0 < c.args.left = omega arith in
    c.finds_within.ensures ∙ sym (finds_within-up c.args.facts.now c.args.left c.args.class.0 c.args.slot c.class_at.result.now
    c.in-Some-parent.parent some (sym c.in_default.ensures) c.class_at.ensures c.in-Some-parent.is)
