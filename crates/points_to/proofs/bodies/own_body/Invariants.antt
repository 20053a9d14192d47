use Rattle.std.proofs.Common.{length}
use Rattle.points_to.specs.Chains.{IsWalk}
use Rattle.points_to.proofs.ChainLemmas.{left}
use Rattle.points_to.proofs.bodies.own_body.Given as goal

abbrev pub invariant-walk : goal.invariant-walk
invariant-walk l = IsWalk l.facts l.fn.class.0 l.slot l.at

abbrev pub decreases-walk : goal.decreases-walk
decreases-walk l = left (length l.facts.columns.items) l.at
