use Rattle.std.proofs.Common.{◌<◌, ◌+◌, ◌++◌, ◌-◌, length, sym, ap, ◌∙◌, subst}
use Rattle.java_core.specs.Programs.{program_of}
use Rattle.run_classes.specs.Lines.{line_in}
use Rattle.run_classes.proofs.Layouts.{line_ends, line_goes}
use Rattle.run_classes.proofs.objects.line.Goals as goal

pub returns-in-None : goal.returns-in-None
returns-in-None c =
    let P = program_of c.args.p.now in
    let n = length P.classes in
    let lt : c.loop-step._step < n = subst (λ e. c.loop-step._step < e) c.class_count-step-end.ensures c.loop-step-test.true in
    c.in_ok-push.ensures.items
    ∙ line_ends P c.loop-step.line.items (line_in P n c.args.class) c.loop-step.at n c.loop-step._step lt (sym c.parent_of.ensures.value ∙ c.in-None.is)
    c.loop-step.invariant

pub loop-step-preserved : goal.loop-step-preserved
loop-step-preserved c =
    let P = program_of c.args.p.now in
    let n = length P.classes in
    let lt : c.loop-step._step < n = subst (λ e. c.loop-step._step < e) c.class_count-step-end.ensures c.loop-step-test.true in
    ap (λ l. l ++ line_in P (n - (c.loop-step._step + 1)) c.in-Some.parent) c.in_ok-push.ensures.items
    ∙ line_goes P c.loop-step.line.items (line_in P n c.args.class) c.loop-step.at n c.loop-step._step c.in-Some.parent lt
    (sym c.parent_of.ensures.value ∙ c.in-Some.is) c.loop-step.invariant
