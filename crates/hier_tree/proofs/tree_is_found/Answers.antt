use Rattle.hier_tree.proofs.TreeIsFound.{tree_is_found}
use Rattle.hier_tree.proofs.tree_is_found.Goals as goal

pub returns : goal.returns
returns c = tree_is_found
