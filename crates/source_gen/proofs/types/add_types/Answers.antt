use Rattle.std.proofs.Common.{ℕ, Bool, false, ◌<◌, [], ◌∷◌, length, ap, arith}
use Rattle.kaba_order.specs.Orders.{Ordered}
use Rattle.flow_rules.specs.Ordered.{when}
use Rattle.hier_model.specs.Hierarchies.{is_class_node}
use Rattle.write_model.specs.Written.{type_tree}
use Rattle.write_forms.specs.Sources.{old_program, renaming}
use Rattle.source_gen.proofs.Loops.{each_more}
use Rattle.source_gen.proofs.types.add_types.Goals as goal

pub loop-n-preserved : goal.loop-n-preserved
loop-n-preserved c =
    let s = c.args.nodes.now in
    let H = s.source.hier.now in
    let below : c.loop-n.n < length H.order.live = omega (arith, ap (λ (o : Ordered). length o.live) c.order.ensures) in
    each_more (λ (n : ℕ) (live : Bool). when live
    (type_tree (old_program s.source) (renaming s.source) s.facts.now H s.source.numbering.now.columns.keys (is_class_node s.facts.now H n) n ∷ []))
    H.order.live c.loop-n.n false _ _ _ below c.in_ok-add_type.ensures c.loop-n.invariant
