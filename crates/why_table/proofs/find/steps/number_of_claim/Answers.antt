use Rattle.std.proofs.Common.{◌≡◌, true, false, below_more, sym, ◌∙◌}
use Rattle.why_table.specs.Trails.{claim_at}
use Rattle.why_table.proofs.StepLemmas.{claim_here}
use Rattle.why_table.proofs.find.steps.number_of_claim.Goals as goal

pub loop-k-preserved : goal.loop-k-preserved
loop-k-preserved c =
    let steps = c.args.steps.now in
    let s = c.step_at.result.now in
    below_more (λ i. claim_at steps i ≡ c.args.claim → ⊥) c.loop-k.k c.loop-k.invariant
    (λ e. let z : false ≡ true = sym c.if-is_claim.false ∙ c.is_claim.ensures.1 (sym (claim_here steps c.loop-k.k s c.step_at.ensures) ∙ e) in cc z)
