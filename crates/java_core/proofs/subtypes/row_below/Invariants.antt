use Rattle.std.proofs.Common.{◌+◌, ◌-◌, length}
use Rattle.kaba_bits.specs.Sets.{size}
use Rattle.java_core.specs.Subtypes.{WalkedBelow}
use Rattle.java_core.proofs.subtypes.row_below.Given as goal

abbrev pub invariant-walk : goal.invariant-walk
invariant-walk l = WalkedBelow l.graph.lists.now l.graph.count l.b l.row l.waiting.items

-- each type waits once
abbrev pub decreases-walk : goal.decreases-walk
decreases-walk l = length l.waiting.items + (l.graph.count - size l.row)
