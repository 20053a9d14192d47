use Rattle.std.proofs.Common.{◌≡◌, ◌+◌, drop}
use Rattle.java_tree.specs.Syntax.{decls}
use Rattle.java_tree.specs.Size.{tree_size}
use Rattle.java_compare.proofs.measure.size.Given as goal

abbrev pub invariant-loop-one : goal.invariant-loop-one
invariant-loop-one l = l.all + tree_size (decls (drop l.one-index l.one-items)) ≡ tree_size (decls l.tree.decls.items)
