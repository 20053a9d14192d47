use Rattle.std.proofs.Common.{◌≡◌, map, take, get_or}
use Rattle.why_table.proofs.find.kept.renumbered.Given as goal

abbrev pub invariant-loop-x : goal.invariant-loop-x
invariant-loop-x l = l.out.items ≡ map (λ x. get_or l.places x 0) (take l.x-index l.from)
