use Rattle.std.proofs.Common.{arith}
use Rattle.std.proofs.lemmas.Grind.{common_steps}
use Rattle.kaba_order.proofs.rows.diagonal.Goals as goal

pub loop-a-preserved : goal.loop-a-preserved
loop-a-preserved c = record {
  len = grind (arith, common_steps);
  widths = grind (arith, common_steps);
  bits = grind (arith, common_steps);
}
