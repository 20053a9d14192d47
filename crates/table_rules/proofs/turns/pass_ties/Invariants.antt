use Rattle.table_rules.specs.State.{IsOpen}
use Rattle.table_rules.proofs.turns.pass_ties.Given as goal

abbrev pub invariant-loop-i : goal.invariant-loop-i
invariant-loop-i l = IsOpen l.given l.state
