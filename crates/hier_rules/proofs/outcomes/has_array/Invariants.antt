use Rattle.std.proofs.Common.{◌≡◌, false}
use Rattle.hier_model.specs.Hierarchies.{any_below}
use Rattle.hier_rules.specs.Asked.{is_array_at}
use Rattle.hier_rules.proofs.outcomes.has_array.Given as goal

abbrev pub invariant-loop-a : goal.invariant-loop-a
invariant-loop-a l = any_below l.a (is_array_at l.asked.facts.now l.asked.pt.now l.base l.t) ≡ false
