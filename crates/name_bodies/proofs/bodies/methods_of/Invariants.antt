use Rattle.std.proofs.Common.{◌≡◌, drop, []}
use Rattle.java_tree.specs.Syntax.{decls}
use Rattle.name_laws.specs.Answers.{run}
use Rattle.name_bodies.specs.Views.{table_of}
use Rattle.name_laws.specs.Resolved.{decl_bodies}
use Rattle.name_bodies.specs.Views.{methods_seen}
use Rattle.name_bodies.proofs.bodies.methods_of.Given as goal

-- the methods so far, and then the rest
abbrev pub invariant-loop-decl : goal.invariant-loop-decl
invariant-loop-decl l = run (decl_bodies (table_of l.tables)) (l.number, methods_seen l.written) (decls (drop l.decl-index l.list))
    ≡ run (decl_bodies (table_of l.tables)) (1, ([], 0)) (decls l.list)
