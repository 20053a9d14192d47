use Rattle.hier_model.specs.Listed.{AreConceptsWith}
use Rattle.hier_model.proofs.begin.concepts_with.Given as goal

abbrev pub invariant-loop-b : goal.invariant-loop-b
invariant-loop-b l = AreConceptsWith l.concepts l.b l.having.items
