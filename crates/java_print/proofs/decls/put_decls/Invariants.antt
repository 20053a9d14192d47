use Rattle.std.proofs.Common.{List, drop}
use Rattle.java_tree.specs.Syntax.{decls}
use Rattle.java_print.specs.Items.{Item}
use Rattle.java_print.specs.Layout.{decls_items}
use Rattle.java_print.specs.Adds.{Adds}
use Rattle.java_print.proofs.decls.put_decls.Given as goal

-- what is left is still to add
abbrev pub invariant-loop-decl : goal.invariant-loop-decl
invariant-loop-decl l = (r : List Item) → Adds l.fn.into.items l.into.items (decls_items (decls l.list) r) (decls_items (decls (drop l.decl-index l.list)) r)
