use Rattle.java_core.specs.Subtypes.{FilledTo}
use Rattle.java_core.proofs.subtypes.fill.Given as goal

-- the rows of the first types are exact
abbrev pub invariant-loop-b : goal.invariant-loop-b
invariant-loop-b l = FilledTo l.graph.lists.now l.graph.count l.b l.known l.rows
