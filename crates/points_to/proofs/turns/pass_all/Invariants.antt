use Rattle.points_to.specs.Sound.{AreSound}
use Rattle.points_to.proofs.turns.pass_all.Given as goal

abbrev pub invariant-loop-i : goal.invariant-loop-i
invariant-loop-i l = AreSound l.given.facts.now l.sets
