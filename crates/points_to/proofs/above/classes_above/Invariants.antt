use Rattle.std.proofs.Common.{◌+◌, ◌-◌, length}
use Rattle.kaba_bits.specs.Sets.{size}
use Rattle.points_to.specs.Above.{WalkedAbove}
use Rattle.points_to.proofs.above.classes_above.Given as goal

abbrev pub invariant-walk : goal.invariant-walk
invariant-walk l = WalkedAbove l.facts l.fn.a.0 l.row l.waiting.items

-- each class waits once
abbrev pub decreases-walk : goal.decreases-walk
decreases-walk l = length l.waiting.items + (length l.facts.classes.items - size l.row)
