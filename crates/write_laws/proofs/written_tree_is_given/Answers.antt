use Rattle.write_laws.proofs.given.Law.{tree_is_formed, tree_is_given}
use Rattle.write_laws.proofs.written_tree_is_given.Goals as goal

pub returns : goal.returns
returns c = record { formed = tree_is_formed; given = tree_is_given }
