use Rattle.java_core.specs.Subtypes.{AreEmpty}
use Rattle.java_core.proofs.direct.empty_lists.Given as goal

abbrev pub invariant-loop-k : goal.invariant-loop-k
invariant-loop-k l = AreEmpty l._k l.lists.items
