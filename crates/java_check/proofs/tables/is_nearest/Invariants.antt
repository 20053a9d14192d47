use Rattle.std.proofs.Common.{◌≡◌, ℕ, ◌<◌, true}
use Rattle.java_core.specs.Programs.{program_of}
use Rattle.java_check.specs.SlotOutcome.{is_nearest_at}
use Rattle.java_check.proofs.tables.is_nearest.Given as goal

abbrev pub invariant-loop-class : goal.invariant-loop-class
invariant-loop-class l = (c : ℕ) → c < l.class → is_nearest_at (program_of l.p) l.table l.having l.lacking l.none c ≡ true
