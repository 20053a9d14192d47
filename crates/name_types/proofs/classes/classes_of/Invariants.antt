use Rattle.std.proofs.Common.{◌≡◌, drop}
use Rattle.std.specs.Prelude.{map}
use Rattle.java_tree.specs.Syntax.{decls}
use Rattle.java_core.specs.Programs.{class_seen}
use Rattle.name_laws.specs.Answers.{run}
use Rattle.name_laws.specs.Classes.{class_step, classes_of}
use Rattle.name_types.proofs.classes.classes_of.Given as goal

-- the classes so far, and then the rest
abbrev pub invariant-loop-decl : goal.invariant-loop-decl
invariant-loop-decl l = run (class_step l.known) (map class_seen l.classes.items) (decls (drop l.decl-index l.list))
    ≡ classes_of l.known (decls l.list)
