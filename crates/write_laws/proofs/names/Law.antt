-- The law.
use Rattle.write_laws.specs.names.Laws.{TreeResolves}
use Rattle.write_laws.proofs.names.Conditions.{no_condition}

pub tree_resolves : TreeResolves
unfolding TreeResolves
tree_resolves P F s H named = no_condition named
