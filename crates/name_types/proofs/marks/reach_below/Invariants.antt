use Rattle.std.proofs.Common.{◌-◌, length}
use Rattle.name_types.specs.Marks.{Marking}
use Rattle.name_types.proofs.marks.reach_below.Given as goal

abbrev pub invariant-down : goal.invariant-down
invariant-down l = Marking l.rows l.owner l.mark l.fn.marks l.marks l.quiet l.from

abbrev pub decreases-down : goal.decreases-down
decreases-down l = length l.marks - l.from
