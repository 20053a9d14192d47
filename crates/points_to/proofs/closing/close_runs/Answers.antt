use Rattle.std.proofs.Common.{arith}
use Rattle.points_to.proofs.RoundLemmas.{kept_more, turn_all, no_run}
use Rattle.points_to.proofs.closing.close_runs.Goals as goal

pub loop-x-preserved : goal.loop-x-preserved
loop-x-preserved c = let step = c.in_ok-more.ensures in (step.width, kept_more _ no_run c.loop-x.invariant.1 (omega arith) step.sets step.step step.closed)

pub returns-clause-closed : goal.returns-clause-closed
returns-clause-closed c = turn_all c.loop-x.invariant.1.turn (omega arith)
