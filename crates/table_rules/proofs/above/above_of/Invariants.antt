use Rattle.table_rules.specs.Above.{AreAbove}
use Rattle.table_rules.proofs.above.above_of.Given as goal

-- the rows of the first columns
abbrev pub invariant-loop-d : goal.invariant-loop-d
invariant-loop-d l = AreAbove l.facts l.d l.rows.items
