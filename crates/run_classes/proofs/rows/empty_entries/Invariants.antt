use Rattle.run_classes.specs.Known.{IsEmpty}
use Rattle.run_classes.proofs.rows.empty_entries.Given as goal

abbrev pub invariant-loop-at : goal.invariant-loop-at
invariant-loop-at g l = IsEmpty l.entries.items
