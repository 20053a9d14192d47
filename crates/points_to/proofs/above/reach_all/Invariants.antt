use Rattle.std.proofs.Common.{take}
use Rattle.points_to.specs.Above.{GainedClasses}
use Rattle.points_to.proofs.above.reach_all.Given as goal

-- the first of them are in the row
abbrev pub invariant-loop-x : goal.invariant-loop-x
invariant-loop-x l = GainedClasses (take l.x-index l.more) l.initial.row l.row l.initial.waiting.items l.waiting.items
