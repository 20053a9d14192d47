use Rattle.std.proofs.Common.{◌≡◌, ◌++◌}
use Rattle.hier_model.specs.Names.{member_names}
use Rattle.fact_model.specs.Taken.{texts, AreSameNames}
use Rattle.hier_model.proofs.names.member_names.Given as goal

abbrev pub invariant-loop-c : goal.invariant-loop-c
invariant-loop-c l = record {
  names : l.names.items ≡ member_names l.facts l.c;
  taken : AreSameNames (texts l.taken.keys) (l.facts.words.items ++ l.names.items);
}
