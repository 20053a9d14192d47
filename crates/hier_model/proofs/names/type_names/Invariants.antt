use Rattle.std.proofs.Common.{◌≡◌, ◌++◌}
use Rattle.hier_model.specs.Names.{type_names}
use Rattle.fact_model.specs.Taken.{texts, AreSameNames}
use Rattle.hier_model.proofs.names.type_names.Given as goal

abbrev pub invariant-loop-n : goal.invariant-loop-n
invariant-loop-n l = record {
  names : l.names.items ≡ type_names l.facts l.members l.origins l.n;
  taken : AreSameNames (texts l.taken.keys) (l.facts.words.items ++ (l.members ++ l.names.items));
}
