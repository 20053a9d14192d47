use Rattle.std.proofs.Common.{All, subst}
use Rattle.why_table.specs.Trails.{ClaimHolds, Passes}
use Rattle.why_table.proofs.Sound.{all_hold}
use Rattle.why_table.proofs.CheckLemmas.{on_true}
use Rattle.why_table.proofs.passes.Goals as goal

pub returns-clause-holds : goal.returns-clause-holds
returns-clause-holds c =
    let F = c.args.facts.now in
    let steps = c.args.trail.now.steps.items in
    on_true c.all_follow.result (Passes F c.deref.result.now) (All (λ s. ClaimHolds F s.claim) steps) c.all_follow.ensures
    (λ p. all_hold F steps (subst (Passes F) c.deref.ensures.value p))
