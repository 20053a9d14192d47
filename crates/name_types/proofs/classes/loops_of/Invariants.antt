use Rattle.std.proofs.Common.{◌≡◌, drop}
use Rattle.std.specs.Prelude.{map}
use Rattle.java_core.specs.Programs.{class_seen}
use Rattle.name_laws.specs.Answers.{run}
use Rattle.name_laws.specs.Classes.{loop_step, loops_of}
use Rattle.name_types.proofs.classes.loops_of.Given as goal

-- the classes so far are no loops, and then the rest
abbrev pub invariant-loop-class : goal.invariant-loop-class
invariant-loop-class l = run (loop_step l.rows) l.a (map class_seen (drop l.class-index l.class-items))
    ≡ loops_of l.rows (map class_seen l.all.items)
