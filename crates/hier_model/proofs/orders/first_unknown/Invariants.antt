use Rattle.std.proofs.Common.{◌≡◌, drop}
use Rattle.hier_model.specs.Edits.{first_unknown}
use Rattle.hier_model.proofs.orders.first_unknown.Given as goal

-- what is left decides
abbrev pub invariant-loop-n : goal.invariant-loop-n
invariant-loop-n l = first_unknown l.order (drop l.n-index l.nodes) ≡ first_unknown l.order l.nodes
