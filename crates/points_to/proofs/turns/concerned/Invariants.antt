use Rattle.std.proofs.Common.{Contains}
use Rattle.std.specs.List.{All}
use Rattle.points_to.proofs.turns.concerned.Given as goal

abbrev pub invariant-loop-x : goal.invariant-loop-x
invariant-loop-x l = All (Contains l.reads) l.list.items
