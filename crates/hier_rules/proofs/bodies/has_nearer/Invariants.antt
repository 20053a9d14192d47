use Rattle.std.proofs.Common.{◌≡◌, false}
use Rattle.hier_model.specs.Hierarchies.{any_below}
use Rattle.hier_rules.specs.Obligations.{is_nearer}
use Rattle.hier_rules.proofs.bodies.has_nearer.Given as goal

abbrev pub invariant-loop-e : goal.invariant-loop-e
invariant-loop-e l = any_below l.e (is_nearer l.asked.facts.now l.asked.hier.now l.n.0 l.d) ≡ false
