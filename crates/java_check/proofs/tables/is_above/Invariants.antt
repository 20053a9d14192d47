use Rattle.std.proofs.Common.{◌≡◌, ℕ, ◌<◌, true}
use Rattle.java_core.specs.Programs.{program_of}
use Rattle.java_check.specs.SlotOutcome.{is_above_at}
use Rattle.java_check.proofs.tables.is_above.Given as goal

abbrev pub invariant-loop-class : goal.invariant-loop-class
invariant-loop-class l = (c : ℕ) → c < l.class → is_above_at (program_of l.p) l.table l.own c ≡ true
