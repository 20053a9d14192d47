use Rattle.std.proofs.Common.{List, length, subst}
use Rattle.why_table.specs.Found.{IsTrailOf}
use Rattle.why_table.specs.Kept.{AreNeeded, AreMoved}
use Rattle.why_table.specs.declared.trail.WhyStep.{WhyStep}
use Rattle.why_table.proofs.KeptLemmas.{kept_trail}
use Rattle.why_table.proofs.FindLemmas.{ok_as}
use Rattle.why_table.proofs.find.found.Goals as goal

pub returns : goal.returns
returns c =
    let F = c.args.given.now.facts.now in
    let steps = c.searched.new.steps.items in
    let marks = c.in_ok-marks.marks in
    let log = c.in_ok-goal.ensures.steps in
    let at = c.in_ok-goal.ensures.goal in
    let need = subst (λ (l : List WhyStep). AreNeeded l c.in_ok-goal.goal 0 marks) c.deref.ensures.value c.in_ok-marks.ensures in
    ok_as (λ v. AreMoved c.deref-2.result.now marks (length marks) v.items) (λ v. IsTrailOf F c.args.r c.args.c v.items) c.kept.result
    (λ v move. kept_trail F steps c.in_ok-goal.goal marks v.items log at.below need
    (subst (λ (l : List WhyStep). AreMoved l marks (length marks) v.items) c.deref-2.ensures.value move) c.args.r c.args.c at.is)
    c.kept.ensures
