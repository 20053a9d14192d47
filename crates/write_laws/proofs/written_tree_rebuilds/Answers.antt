use Rattle.write_laws.proofs.rebuilds.Whole.{tree_rebuilds}
use Rattle.write_laws.proofs.written_tree_rebuilds.Goals as goal

pub returns : goal.returns
returns c = tree_rebuilds
