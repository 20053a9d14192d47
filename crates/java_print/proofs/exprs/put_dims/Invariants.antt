use Rattle.std.proofs.Common.{List, ◌-◌}
use Rattle.java_print.specs.Items.{Item}
use Rattle.java_print.specs.Layout.{dims_items}
use Rattle.java_print.specs.Adds.{Adds}
use Rattle.java_print.proofs.exprs.put_dims.Given as goal

-- the pairs that are left are still to add
abbrev pub invariant-loop : goal.invariant-loop
invariant-loop l = (r : List Item) → Adds l.fn.into.items l.into.items (dims_items l.count r) (dims_items (l.count - l.counter) r)
