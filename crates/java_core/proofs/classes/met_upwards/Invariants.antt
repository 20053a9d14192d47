use Rattle.java_core.specs.Programs.{program_of}
use Rattle.java_core.specs.Classes.{IsSubclass}
use Rattle.java_core.proofs.classes.met_upwards.Given as goal

abbrev pub invariant-up : goal.invariant-up
invariant-up l = IsSubclass (program_of l.p) l.initial.at.0 l.at.0

abbrev pub decreases-up : goal.decreases-up
decreases-up l = l.steps
