use Rattle.std.proofs.Common.{arith}
use Rattle.std.proofs.lemmas.Grind.{common_steps}
use Rattle.kaba_base.specs.declared.NodeId.{NodeId}
use Rattle.kaba_order.proofs.FlipLemmas.{live_more}
use Rattle.kaba_order.proofs.flips.flip_live.Goals as goal

pub loop-n-preserved : goal.loop-n-preserved
loop-n-preserved c =
    let nodes = c.args.nodes.now in
    let i = c.loop-n.n-index in
    let d : NodeId = record { 0 = 0 } in
    record {
      len = grind (arith, common_steps);
      bits = live_more nodes i d c.args.live.now c.loop-n.live c.flip_bit.new.set (omega arith)
          (omega (arith, c.requires i d (omega arith), c.loop-n.invariant.len)) c.flip_bit.ensures c.loop-n.invariant.bits;
    }
