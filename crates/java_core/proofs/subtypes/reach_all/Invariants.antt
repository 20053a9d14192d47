use Rattle.std.proofs.Common.{take}
use Rattle.java_core.specs.Subtypes.{GainedTypes}
use Rattle.java_core.proofs.subtypes.reach_all.Given as goal

-- the first of them are in the row
abbrev pub invariant-loop-x : goal.invariant-loop-x
invariant-loop-x l = GainedTypes l.rows l.known (take l.x-index l.more) l.initial.row l.row l.initial.waiting.items l.waiting.items
