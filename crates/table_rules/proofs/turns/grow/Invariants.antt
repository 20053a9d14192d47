use Rattle.table_rules.specs.State.{IsOpen}
use Rattle.table_rules.proofs.turns.grow.Given as goal

abbrev pub invariant-loop-turn : goal.invariant-loop-turn
invariant-loop-turn l = IsOpen l.given l.state
