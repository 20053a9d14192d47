use Rattle.java_core.specs.Subtypes.{AreExact}
use Rattle.java_core.proofs.subtypes.fill_by.Given as goal

-- the rows that are known are exact
abbrev pub invariant-loop-k : goal.invariant-loop-k
invariant-loop-k l = AreExact l.graph.lists.now l.graph.count l.known l.rows
