use Rattle.std.proofs.Common.{◌≡◌, ◌++◌, drop}
use Rattle.std.specs.List.{flat_map}
use Rattle.points_to.specs.Closed.{writes_of_call}
use Rattle.points_to.proofs.members.arguments.Given as goal

abbrev pub invariant-loop-call : goal.invariant-loop-call
invariant-loop-call l = l.list.items ++ flat_map writes_of_call (drop l.call-index l.facts.calls.items) ≡ flat_map writes_of_call l.facts.calls.items
