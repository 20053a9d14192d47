use Rattle.std.proofs.Common.{◌≡◌, ◌++◌, map, drop}
use Rattle.java_tree.specs.Makers.{declares_maker}
use Rattle.java_tree.specs.Syntax.{decls}
use Rattle.name_types.specs.Writers.{writers_in}
use Rattle.name_types.proofs.writers.writers.Given as goal

-- the marks so far, and then the rest
abbrev pub invariant-loop-decl : goal.invariant-loop-decl
invariant-loop-decl l = l.writers.items ++ map declares_maker (decls (drop l.decl-index l.list)) ≡ writers_in (decls l.list)
