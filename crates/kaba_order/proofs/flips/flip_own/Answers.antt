use Rattle.std.proofs.Common.{arith}
use Rattle.std.proofs.lemmas.Grind.{common_steps}
use Rattle.kaba_base.specs.declared.NodeId.{NodeId}
use Rattle.kaba_order.proofs.FlipLemmas.{own_more}
use Rattle.kaba_order.proofs.flips.flip_own.Goals as goal

pub loop-n-preserved : goal.loop-n-preserved
loop-n-preserved c =
    let nodes = c.args.nodes.now in
    let i = c.loop-n.n-index in
    let d : NodeId = record { 0 = 0 } in
    record {
      widths = grind (arith, common_steps);
      lower = c.flip_both.ensures.lower;
      rows = own_more nodes i d c.args.le.now c.loop-n.le c.flip_both.new.le (omega arith) c.flip_both.ensures.rows c.loop-n.invariant.rows;
    }
