use Rattle.name_types.specs.Marks.{Testing}
use Rattle.name_types.proofs.marks.test_all.Given as goal

abbrev pub invariant-loop-place : goal.invariant-loop-place
invariant-loop-place l = Testing l.rows l.all.items l.list l.marks l.initial.suspects l.suspects l.place
