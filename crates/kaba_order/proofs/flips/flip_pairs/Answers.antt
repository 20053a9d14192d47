use Rattle.std.proofs.Common.{arith}
use Rattle.std.proofs.lemmas.Grind.{common_steps}
use Rattle.kaba_base.specs.declared.NodeId.{NodeId}
use Rattle.kaba_order.proofs.FlipLemmas.{pairs_more}
use Rattle.kaba_order.proofs.flips.flip_pairs.Goals as goal

pub loop-p-preserved : goal.loop-p-preserved
loop-p-preserved c =
    let pairs = c.args.pairs.now in
    let i = c.loop-p.p-index in
    let n : NodeId = record { 0 = 0 } in
    record {
      widths = grind (arith, common_steps);
      lower = c.flip_both.ensures.lower;
      rows = pairs_more pairs i (n, n) c.args.le.now c.loop-p.le c.flip_both.new.le (omega arith) c.flip_both.ensures.rows c.loop-p.invariant.rows;
    }
