use Rattle.table_rules.specs.State.{IsOpen}
use Rattle.table_rules.proofs.turns.spread.Given as goal

abbrev pub invariant-loop-r : goal.invariant-loop-r
invariant-loop-r l = IsOpen l.given l.state
