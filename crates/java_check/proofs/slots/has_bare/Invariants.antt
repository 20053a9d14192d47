use Rattle.std.proofs.Common.{◌≡◌, drop}
use Rattle.java_core.specs.Programs.{program_of}
use Rattle.java_check.specs.SlotOutcome.{has_bare}
use Rattle.java_check.proofs.slots.has_bare.Given as goal

abbrev pub invariant-loop-at : goal.invariant-loop-at
invariant-loop-at l = has_bare (program_of l.p) l.list ≡ has_bare (program_of l.p) (drop l.at-index l.list)
