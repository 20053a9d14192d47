use Rattle.std.proofs.Common.{◌<◌, ◌≤◌, ℕ, length}
use Rattle.java_core.specs.Programs.{program_of}
use Rattle.java_check.specs.SlotOutcome.{IsFineFor}
use Rattle.java_check.proofs.slots.fine_for_all.Given as goal

abbrev pub invariant-loop-batch : goal.invariant-loop-batch
invariant-loop-batch l = record {
  within : l.until ≤ length l.p.classes.items;
  fine : (b c : ℕ) → b < l.batch → c < l.until → IsFineFor (program_of l.p) b c;
}
