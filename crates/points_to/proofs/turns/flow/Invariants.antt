use Rattle.points_to.specs.Sound.{AreSound}
use Rattle.points_to.proofs.turns.flow.Given as goal

abbrev pub invariant-loop-turn : goal.invariant-loop-turn
invariant-loop-turn l = AreSound l.given.facts.now l.sets
