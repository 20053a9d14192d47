use Rattle.java_core.specs.Nearest.{AreVersions}
use Rattle.java_core.proofs.nearest.versions.Given as goal

abbrev pub invariant-loop-at : goal.invariant-loop-at
invariant-loop-at l = AreVersions l.parents l.numbers l.own.items l.all.items
