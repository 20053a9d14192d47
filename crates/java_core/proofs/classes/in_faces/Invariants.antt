use Rattle.java_core.specs.Programs.{program_of}
use Rattle.java_core.proofs.Offered.{IsOnWay}
use Rattle.java_core.proofs.classes.in_faces.Given as goal

abbrev pub invariant-up : goal.invariant-up
invariant-up l = IsOnWay (program_of l.p) l.name l.initial.at.0 l.at.0 l.steps

abbrev pub decreases-up : goal.decreases-up
decreases-up l = l.steps
