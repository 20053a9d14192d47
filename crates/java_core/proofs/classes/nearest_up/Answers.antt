use Rattle.std.proofs.Common.{◌∙◌, sym, ap}
use Rattle.java_core.specs.Programs.{program_of}
use Rattle.java_core.specs.Classes.{nearest}
use Rattle.java_core.proofs.Subclasses.{nearest-up, nearest-top}
use Rattle.java_core.proofs.NearestLemmas.{own-nearest}
use Rattle.java_core.proofs.classes.nearest_up.Goals as goal
use Rattle.java_core.proofs.classes.nearest_up.Goals.{then-is_some-via-then-is_some, then-is_some-via-else-is_some+then-steps-eq0}

-- what the superclass has, where the class has nothing of its own
pub up-preserved : goal.up-preserved
up-preserved g c f same =
    nearest-up (program_of c.args.p.now) f (λ d. d.0) c.up.steps c.up.at.0 c.own-here.result c.in-Some.parent c.if-steps-eq0.false
    (same c.up.at c.own-here.result c.own-here.ensures) (sym c.is_some.ensures ∙ c.if-is_some.false) (sym c.parent_of.ensures.value ∙ c.in-Some.is)
    ∙ c.up.invariant f same

pub returns-then-is_some : goal.returns-then-is_some
returns-then-is_some g c f same =
    let P = program_of c.args.p.now in
    let here = same c.up.at c.own-here.result c.own-here.ensures in
    elim c.then-is_some.branch [
      | then-is_some-via-then-is_some w ↦ own-nearest P f (λ d. d.0) c.up.steps c.up.at.0 c.own-here.result (sym c.is_some.ensures ∙ w.if-is_some.true) here
      | then-is_some-via-else-is_some+then-steps-eq0 w ↦ here ∙ ap (λ n. nearest P f n c.up.at.0) (sym w.if-steps-eq0.true)
    ]
    ∙ c.up.invariant f same ∙ ap (λ n. nearest P f n c.args.class.0) c.class_count-steps.ensures

pub returns-in_default : goal.returns-in_default
returns-in_default g c f same =
    let P = program_of c.args.p.now in
    nearest-top P f (λ d. d.0) c.up.steps c.up.at.0 c.own-here.result (same c.up.at c.own-here.result c.own-here.ensures)
    (sym c.is_some.ensures ∙ c.if-is_some.false) (sym c.parent_of.ensures.value ∙ c.in_default.is)
    ∙ c.up.invariant f same ∙ ap (λ n. nearest P f n c.args.class.0) c.class_count-steps.ensures
