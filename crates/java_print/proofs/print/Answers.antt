use Rattle.java_tree.specs.Syntax.{tree_of}
use Rattle.java_print.proofs.Whole.{read_where_made}
use Rattle.java_print.proofs.print.Goals as goal

pub returns-clause-read : goal.returns-clause-read
returns-clause-read c = read_where_made c.extend_from_slice.result (tree_of c.args.tree.now) c.requires
