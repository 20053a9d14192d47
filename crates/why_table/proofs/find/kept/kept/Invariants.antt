use Rattle.why_table.specs.Kept.{AreKept}
use Rattle.why_table.proofs.find.kept.kept.Given as goal

abbrev pub invariant-loop-k : goal.invariant-loop-k
invariant-loop-k l = AreKept l.steps l.marks l.k l.places.items l.out.items
