use Rattle.std.proofs.Common.{arith}
use Rattle.points_to.proofs.RoundLemmas.{turn_more}
use Rattle.points_to.proofs.writes.include_all.Goals as goal

pub loop-n-preserved : goal.loop-n-preserved
loop-n-preserved c = let step = c.include_row-grew.ensures in turn_more _ 0 c.loop-n.invariant (omega arith) step.sets step.step step.closed
