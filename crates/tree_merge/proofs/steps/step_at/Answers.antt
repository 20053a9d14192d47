use Rattle.std.proofs.Common.{subst, sym}
use Rattle.hier_tree.specs.declared.Conflict.{Conflict}
use Rattle.tree_merge.specs.Attempts.{AreApart, IsTried, AreRefused}
use Rattle.tree_merge.proofs.AttemptLemmas.{apart_of}
use Rattle.tree_merge.proofs.StepLemmas.{stuck_at}
use Rattle.tree_merge.proofs.steps.step_at.Goals as goal

pub tries_of-requires-clause-apart : goal.tries_of-requires-clause-apart
tries_of-requires-clause-apart c =
    subst (λ (k : Conflict). AreApart c.args.hier.now.order k.first k.second) (sym c.conflict_of-conflict.ensures)
    (apart_of c.args.given.now.facts.now c.args.hier.now c.requires.hierarchy.sized.order c.args.broken c.requires.conflict)

pub returns-clause-turn : goal.returns-clause-turn
returns-clause-turn c =
    let F = c.args.given.now.facts.now in
    let pt = c.args.given.now.sets.now in
    let H = c.args.hier.now in
    let New = c.first_accepted.new.hier in
    let T = c.in_ok-tries.tries.items in
    let r = subst (λ l. AreRefused F pt H New l c.in-Refused.last) c.deref.ensures.value
    (subst (IsTried F pt H New c.deref.result.now) c.in-Refused.is c.in_ok-k.ensures.tried) in
    stuck_at F pt H New c.args.broken c.conflict_of-conflict.result T c.in-Refused.last
    c.conflict_of-conflict.ensures c.in_ok-tries.ensures.tries c.requires.conflict r
