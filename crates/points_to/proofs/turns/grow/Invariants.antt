use Rattle.points_to.specs.Sound.{AreSound}
use Rattle.points_to.proofs.turns.grow.Given as goal

abbrev pub invariant-loop-turn : goal.invariant-loop-turn
invariant-loop-turn l = record {
  now : AreSound l.given.facts.now l.bases.now.items;
  sets : AreSound l.given.facts.now l.sets;
}
