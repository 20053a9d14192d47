use Rattle.write_laws.proofs.names.Law.{tree_resolves}
use Rattle.write_laws.proofs.written_tree_resolves.Goals as goal

pub returns : goal.returns
returns c = tree_resolves
