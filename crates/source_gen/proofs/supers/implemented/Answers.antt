use Rattle.std.proofs.Common.{ℕ, ◌&&◌, not}
use Rattle.hier_model.specs.Hierarchies.{is_class_node}
use Rattle.write_model.specs.Supers.{is_cover, type_id}
use Rattle.source_gen.proofs.Nodes.{filtered_more}
use Rattle.source_gen.proofs.supers.implemented.Goals as goal

pub loop-a-preserved : goal.loop-a-preserved
loop-a-preserved c =
    let F = c.args.nodes.now.facts.now in
    let H = c.args.nodes.now.source.hier.now in
    filtered_more (type_id F H) (λ (k : ℕ). is_cover H.order c.args.n.0 k && not (is_class_node F H k)) c.loop-a.a c.is_face-passes.result
    c.loop-a.list.items c.add_name.new.into.items c.is_face-passes.ensures c.in_ok-add_name.ensures c.loop-a.invariant
