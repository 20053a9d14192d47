use Rattle.std.proofs.Common.{◌+◌, ◌≤◌}
use Rattle.why_table.specs.Kept.{AreNeeded}
use Rattle.why_table.proofs.find.kept.needed.Given as goal

abbrev pub invariant-loop-k : goal.invariant-loop-k
invariant-loop-k l = record {
  low : l.k ≤ l.goal + 1;
  marks : AreNeeded l.steps l.goal l.k l.marks;
}

abbrev pub decreases-loop-k : goal.decreases-loop-k
decreases-loop-k l = l.k
