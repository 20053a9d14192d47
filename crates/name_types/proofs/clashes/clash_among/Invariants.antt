use Rattle.std.proofs.Common.{◌≡◌, drop}
use Rattle.name_types.specs.Clashes.{clash_among}
use Rattle.name_types.proofs.clashes.clash_among.Given as goal

-- no clash so far, and then the rest
abbrev pub invariant-loop-at : goal.invariant-loop-at
invariant-loop-at l = clash_among l.rows l.all.items l.k l.b (drop l.at-index l.list) ≡ clash_among l.rows l.all.items l.k l.b l.list
