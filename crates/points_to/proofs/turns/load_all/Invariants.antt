use Rattle.points_to.specs.Sound.{AreSound}
use Rattle.points_to.proofs.turns.load_all.Given as goal

abbrev pub invariant-loop-x : goal.invariant-loop-x
invariant-loop-x g l = AreSound l.facts l.bases.now.items
