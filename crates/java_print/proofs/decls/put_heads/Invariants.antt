use Rattle.std.proofs.Common.{List, drop}
use Rattle.java_tree.specs.Syntax.{heads}
use Rattle.java_print.specs.Items.{Item}
use Rattle.java_print.specs.Layout.{heads_items}
use Rattle.java_print.specs.Adds.{Adds}
use Rattle.java_print.proofs.decls.put_heads.Given as goal

-- what is left is still to add
abbrev pub invariant-loop-head : goal.invariant-loop-head
invariant-loop-head l = (r : List Item) → Adds l.fn.into.items l.into.items (heads_items (heads l.list) r) (heads_items (heads (drop l.head-index l.list)) r)
