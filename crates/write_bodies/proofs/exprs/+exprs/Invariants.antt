-- What is written so far and the rest is the whole.
use Rattle.std.proofs.Common.{◌≡◌, drop}
use Rattle.java_tree.specs.Syntax as tree
use Rattle.java_tree.proofs.Appended.{append_exprs}
use Rattle.java_core.specs.Trees.{exprs}
use Rattle.write_bodies.specs.Written.{expressions}
use Rattle.write_bodies.proofs.exprs.+exprs.Given as goal

abbrev pub invariant-all-loop-one : goal.invariant-all-loop-one
invariant-all-loop-one l =
    append_exprs (tree.exprs l.done.items) (expressions l.within l.scope.items (exprs (drop l.one-index l.one-items)))
    ≡ expressions l.within l.scope.items (exprs l.list.items)
