use Rattle.std.proofs.Common.{List, drop}
use Rattle.java_tree.specs.Syntax.{members}
use Rattle.java_print.specs.Items.{Item}
use Rattle.java_print.specs.Layout.{members_items}
use Rattle.java_print.specs.Adds.{Adds}
use Rattle.java_print.proofs.decls.put_members.Given as goal

-- what is left is still to add
abbrev pub invariant-loop-member : goal.invariant-loop-member
invariant-loop-member l = (r : List Item) → Adds l.fn.into.items l.into.items (members_items (members l.list) r)
    (members_items (members (drop l.member-index l.list)) r)
