use Rattle.std.proofs.Common.{◌-◌, length}
use Rattle.points_to.specs.Chains.{AreChained}
use Rattle.points_to.proofs.bodies.chain_all.Given as goal

abbrev pub invariant-loop-k : goal.invariant-loop-k
invariant-loop-k l = AreChained l.facts l.first l.next (length l.facts.columns.items - l.k)
