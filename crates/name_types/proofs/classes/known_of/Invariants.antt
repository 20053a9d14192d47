use Rattle.std.proofs.Common.{◌≡◌, drop}
use Rattle.java_tree.specs.Syntax.{decls}
use Rattle.name_laws.specs.Answers.{run}
use Rattle.name_laws.specs.Classes.{know, known_of}
use Rattle.name_types.proofs.classes.known_of.Given as goal

-- the types so far, and then the rest
abbrev pub invariant-loop-decl : goal.invariant-loop-decl
invariant-loop-decl l = run know l.known (decls (drop l.decl-index l.list)) ≡ known_of (decls l.list)
