use Rattle.run_classes.specs.Known.{IsIgnorant}
use Rattle.run_classes.proofs.rows.empty_rows.Given as goal

abbrev pub invariant-loop-at : goal.invariant-loop-at
invariant-loop-at g l = IsIgnorant l.rows.items
