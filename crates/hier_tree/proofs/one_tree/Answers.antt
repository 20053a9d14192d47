use Rattle.hier_tree.proofs.GrowLemmas.{one_tree}
use Rattle.hier_tree.proofs.one_tree.Goals as goal

pub returns : goal.returns
returns c = one_tree
