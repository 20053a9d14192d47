use Rattle.std.specs.Prelude.{map}
use Rattle.java_core.specs.Plain.{class_seen}
use Rattle.java_core.specs.Subtypes.{AreDirect}
use Rattle.java_core.proofs.direct.enter_classes.Given as goal

-- the first types are entered
abbrev pub invariant-loop-x : goal.invariant-loop-x
invariant-loop-x l = AreDirect (map class_seen l.all.items) l.x l.lists
