-- One more operand.
use Rattle.std.proofs.Common.{[], ◌∷◌, ◌++◌, map, refl, ap, ◌∙◌}
use Rattle.flow_rules.specs.Lists.{point_at}
use Rattle.flow_facts.specs.Seen.{numbers_seen}
use Rattle.flow_facts.proofs.Steps.{step}
use Rattle.flow_facts.proofs.lists.points_at.Goals as goal

pub loop-operand-preserved : goal.loop-operand-preserved
loop-operand-preserved c =
    let f = point_at (numbers_seen c.args.n.now) in
    step (λ o. f o ∷ []) (map f) (map f) (λ _ _. refl) c.args.operands.now.items _ _ _ _ _ _ c.deref-operand-items.ensures.value
    c.loop-operand-test.true c.loop-operand.invariant
    (c.in-Ok.ensures.value ∙ ap (λ p. c.loop-operand.points.items ++ p ∷ []) c.point_at.ensures.value)
