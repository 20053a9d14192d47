use Rattle.sure_report.specs.Found.{RunBelow}
use Rattle.sure_report.proofs.calls.bodies_of.Given as goal

abbrev pub invariant-loop-s : goal.invariant-loop-s
invariant-loop-s l = RunBelow l.facts l.pt l.call.receiver l.call.slot l.s l.found
