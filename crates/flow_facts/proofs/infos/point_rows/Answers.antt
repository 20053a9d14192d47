-- One more point.
use Rattle.std.proofs.Common.{[], ◌∷◌, map, refl}
use Rattle.kaba_base.specs.declared.RowId.{RowId}
use Rattle.flow_rules.specs.declared.items.Point.{Point}
use Rattle.flow_facts.proofs.Steps.{step}
use Rattle.flow_facts.proofs.infos.point_rows.Goals as goal

pub loop-point-preserved : goal.loop-point-preserved
loop-point-preserved c =
    let row : Point → RowId = λ p. record { 0 = p.row } in
    step (λ p. row p ∷ []) (map row) (map row) (λ _ _. refl) c.args.points.now.items _ _ _ _ _ _ c.deref-point-items.ensures.value
    c.loop-point-test.true c.loop-point.invariant c.in-Ok.ensures.value
