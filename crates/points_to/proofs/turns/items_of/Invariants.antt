use Rattle.std.proofs.Common.{Contains}
use Rattle.std.specs.List.{All}
use Rattle.points_to.proofs.turns.items_of.Given as goal

abbrev pub invariant-loop-k : goal.invariant-loop-k
invariant-loop-k g l = All (Contains l.from) l.list.items
