use Rattle.std.proofs.Common.{◌≡◌, false}
use Rattle.hier_model.specs.Hierarchies.{any_below}
use Rattle.hier_model.specs.Names.{is_namesake_above}
use Rattle.hier_model.proofs.names.has_namesake_above.Given as goal

abbrev pub invariant-loop-d : goal.invariant-loop-d
invariant-loop-d l = any_below l.d (is_namesake_above l.facts l.c.0) ≡ false
