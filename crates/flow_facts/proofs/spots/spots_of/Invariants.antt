-- The spots so far, and those of what is left.
use Rattle.std.proofs.Common.{◌≡◌, ◌++◌, drop}
use Rattle.flow_rules.specs.Spots.{numbered_spots}
use Rattle.flow_facts.proofs.spots.spots_of.Given as goal

abbrev pub invariant-loop-mark : goal.invariant-loop-mark
invariant-loop-mark l = l.spots.items ++ numbered_spots l.calls l.tests (drop l.mark-index l.marks.items) ≡ numbered_spots 0 0 l.marks.items
