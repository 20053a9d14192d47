use Rattle.std.proofs.Common.{refl}
use Rattle.std.specs.List.{flat_map}
use Rattle.flow_rules.specs.Numbered.{number_among, same_row, listed}
use Rattle.flow_facts.proofs.Steps.{step}
use Rattle.flow_facts.proofs.numbering.add_listed.Goals as goal

pub loop-point-preserved : goal.loop-point-preserved
loop-point-preserved c =
    let f = listed (number_among same_row c.args.rows.now.keys) in
    step f (flat_map f) (flat_map f) (λ _ _. refl) c.args.points.now.items _ _ _ _ _ _ c.deref-point-items.ensures.value c.loop-point-test.true
    c.loop-point.invariant c.in-Ok.ensures.value
