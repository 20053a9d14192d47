use Rattle.name_types.specs.Marks.{TestedBefore}
use Rattle.name_types.proofs.marks.suspects_of.Given as goal

abbrev pub invariant-loop-k : goal.invariant-loop-k
invariant-loop-k l = TestedBefore l.rows l.all.items l.spots l.k l.suspects.items
