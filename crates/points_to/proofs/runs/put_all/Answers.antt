use Rattle.std.proofs.Common.{arith}
use Rattle.points_to.proofs.RoundLemmas.{turn_more, on_false_of}
use Rattle.points_to.proofs.runs.put_all.Goals as goal

pub loop-n-preserved : goal.loop-n-preserved
loop-n-preserved c = let step = c.put-grew.ensures in turn_more _ 0 c.loop-n.invariant (omega arith) step.sets step.step (on_false_of _ step.has)
