use Rattle.std.proofs.Common.{◌≡◌, ◌+◌, drop}
use Rattle.java_tree.specs.Syntax.{members}
use Rattle.java_tree.specs.Size.{members_size}
use Rattle.java_compare.proofs.measure.members_count.Given as goal

abbrev pub invariant-loop-one : goal.invariant-loop-one
invariant-loop-one l = l.all + members_size (members (drop l.one-index l.list)) ≡ members_size (members l.list)
