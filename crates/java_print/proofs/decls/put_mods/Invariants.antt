use Rattle.std.proofs.Common.{List, drop}
use Rattle.java_print.specs.Items.{Item}
use Rattle.java_print.specs.Layout.{mods_items}
use Rattle.java_print.specs.Adds.{Adds}
use Rattle.java_print.proofs.decls.put_mods.Given as goal

-- what is left is still to add
abbrev pub invariant-loop-m : goal.invariant-loop-m
invariant-loop-m l = (r : List Item) → Adds l.fn.into.items l.into.items (mods_items l.mods r) (mods_items (drop l.m-index l.mods) r)
