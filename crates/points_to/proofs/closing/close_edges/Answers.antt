use Rattle.std.proofs.Common.{arith}
use Rattle.points_to.proofs.RoundLemmas.{turn_more, turn_all, no_edge}
use Rattle.points_to.proofs.closing.close_edges.Goals as goal

pub loop-x-preserved : goal.loop-x-preserved
loop-x-preserved c = let step = c.in_ok-more.ensures in turn_more _ no_edge c.loop-x.invariant (omega arith) step.sets step.step step.closed

pub returns-clause-closed : goal.returns-clause-closed
returns-clause-closed c = turn_all c.loop-x.invariant (omega arith)
