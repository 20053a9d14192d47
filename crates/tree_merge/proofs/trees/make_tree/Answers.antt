use Rattle.std.proofs.Common.{ℕ, List, refl, subst, sym, ◌∙◌, [], ◌∷◌, ◌++◌}
use Rattle.hier_rules.specs.Index.{AreClashesOf}
use Rattle.hier_tree.specs.Trees.{Leads, Stuck, begun}
use Rattle.hier_tree.proofs.TreeIsFound.{tree_is_found}
use Rattle.tree_merge.specs.Attempts.{IsTurn}
use Rattle.tree_merge.specs.Logs.{step_of, steps_of}
use Rattle.tree_merge.proofs.StepLemmas.{one_more, more_steps, ends, ends_stuck, none_yet, more_edits}
use Rattle.tree_merge.proofs.trees.make_tree.Goals as goal

pub steps-init : goal.steps-init
steps-init c =
    let H = c.args.hier.now in
    record {
      steps = subst (λ l. Leads c.args.facts.now c.args.sets.now H (steps_of l) H) (sym c.new-log.ensures.items) begun;
      edits = none_yet c.new-log.result.items c.new-log.ensures.items;
      meets = c.requires.meets;
      is = c.requires.hierarchy;
      known = c.in-Ok.ensures.known;
      members = refl;
    }

pub step-requires-clause-names : goal.step-requires-clause-names
step-requires-clause-names c =
    subst (λ (m : List (List ℕ)). AreClashesOf c.args.facts.now m c.in-Ok.prepared.clashes.items) (sym c.steps.invariant.members) c.in-Ok.ensures.clashes

pub returns-in-Err-clause-fault : goal.returns-in-Err-clause-fault
returns-in-Err-clause-fault c = ([], begun)

pub returns-in-Ok-Done-clause-tree : goal.returns-in-Ok-Done-clause-tree
returns-in-Ok-Done-clause-tree c =
    let F = c.args.facts.now in
    let pt = c.args.sets.now in
    let t = subst (IsTurn F pt c.steps.hier c.step.new.hier) c.in-Ok-Done.field-0-is c.in-Ok-Done.ensures.turn in
    ends F pt c.args.hier.now c.steps.hier c.step.new.hier (steps_of c.steps.log.items) c.steps.invariant.steps t.0 t.1

pub returns-in-Ok-Stuck-clause-fault : goal.returns-in-Ok-Stuck-clause-fault
returns-in-Ok-Stuck-clause-fault c =
    let F = c.args.facts.now in
    let pt = c.args.sets.now in
    let t = subst (IsTurn F pt c.steps.hier c.step.new.hier) c.in-Ok-Stuck.field-0-is c.in-Ok-Stuck.ensures.turn in
    let log = steps_of c.steps.log.items in
    let stuck = c.in-Ok-Stuck in
    (ends_stuck F pt c.args.hier.now c.steps.hier c.step.new.hier log stuck.conflict stuck.broken c.steps.invariant.steps t, c.steps.invariant.edits)

pub returns-in-Ok-Stuck-clause-found : goal.returns-in-Ok-Stuck-clause-found
returns-in-Ok-Stuck-clause-found c = λ t l A N reached.
    let F = c.args.facts.now in
    let pt = c.args.sets.now in
    let H = c.args.hier.now in
    let log = steps_of c.steps.log.items in
    let turn = subst (IsTurn F pt c.steps.hier c.step.new.hier) c.in-Ok-Stuck.field-0-is c.in-Ok-Stuck.ensures.turn in
    let grows = ends_stuck F pt H c.steps.hier c.step.new.hier log c.in-Ok-Stuck.conflict c.in-Ok-Stuck.broken c.steps.invariant.steps turn in
    absurd (tree_is_found F pt t l A N H reached log (Stuck c.step.new.hier c.in-Ok-Stuck.conflict c.in-Ok-Stuck.broken) grows)

pub steps-preserved : goal.steps-preserved
steps-preserved c =
    let F = c.args.facts.now in
    let pt = c.args.sets.now in
    let log = c.steps.log.items in
    let more = c.push.new.self.items in
    let s = c.in-Ok-Taken.step in
    let is = subst (IsTurn F pt c.steps.hier c.step.new.hier) c.in-Ok-Taken.field-0-is c.in-Ok-Taken.ensures.turn in
    record {
      steps = more_steps F pt c.args.hier.now c.steps.hier c.step.new.hier log more s c.in-Ok-push.ensures.items c.steps.invariant.steps is;
      edits = more_edits log more s c.in-Ok-push.ensures.items c.steps.invariant.edits is.edit;
      meets = is.meets;
      is = c.step.ensures.is;
      known = c.step.ensures.known;
      members = c.step.ensures.members ∙ c.steps.invariant.members;
    }

pub returns-in-Err-push-clause-fault : goal.returns-in-Err-push-clause-fault
returns-in-Err-push-clause-fault c =
    let F = c.args.facts.now in
    let pt = c.args.sets.now in
    let is = subst (IsTurn F pt c.steps.hier c.step.new.hier) c.in-Ok-Taken.field-0-is c.in-Ok-Taken.ensures.turn in
    let next = steps_of c.steps.log.items ++ step_of c.in-Ok-Taken.step ∷ [] in
    (next, one_more F pt c.args.hier.now c.steps.hier c.step.new.hier c.steps.log.items c.in-Ok-Taken.step c.steps.invariant.steps is)
