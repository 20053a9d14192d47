use Rattle.std.proofs.Common.{List, drop, nat_lt, false}
use Rattle.java_print.specs.Items.{Item}
use Rattle.java_print.specs.Layout.{ids_items}
use Rattle.java_print.specs.Adds.{Adds}
use Rattle.java_print.proofs.decls.put_ids.Given as goal

-- what is left is still to add
abbrev pub invariant-loop-i : goal.invariant-loop-i
invariant-loop-i l = (r : List Item) → Adds l.fn.into.items l.into.items (ids_items false l.ids r) (ids_items (nat_lt 0 l.i) (drop l.i l.ids) r)
