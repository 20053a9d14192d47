use Rattle.write_model.specs.Supers.{is_cover, type_id}
use Rattle.source_gen.proofs.Nodes.{filtered_more}
use Rattle.source_gen.proofs.supers.covering.Goals as goal

pub loop-a-preserved : goal.loop-a-preserved
loop-a-preserved c =
    let H = c.args.nodes.now.source.hier.now in
    filtered_more (type_id c.args.nodes.now.facts.now H) (is_cover H.order c.args.n.0) c.loop-a.a c.is_cover-passes.result c.loop-a.list.items
    c.add_name.new.into.items c.is_cover-passes.ensures c.in_ok-add_name.ensures c.loop-a.invariant
