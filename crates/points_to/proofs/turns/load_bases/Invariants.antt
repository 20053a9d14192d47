use Rattle.points_to.specs.Sound.{AreSound}
use Rattle.points_to.proofs.turns.load_bases.Given as goal

abbrev pub invariant-loop-p : goal.invariant-loop-p
invariant-loop-p l = AreSound l.facts l.bases.now.items
