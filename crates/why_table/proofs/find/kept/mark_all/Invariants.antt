use Rattle.std.proofs.Common.{take}
use Rattle.why_table.specs.Kept.{AddsAll}
use Rattle.why_table.proofs.find.kept.mark_all.Given as goal

-- the first of them are marked
abbrev pub invariant-loop-x : goal.invariant-loop-x
invariant-loop-x l = AddsAll (take l.x-index l.from) l.initial.marks l.marks
