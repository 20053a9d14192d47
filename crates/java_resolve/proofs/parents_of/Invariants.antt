use Rattle.std.proofs.Common.{◌≡◌, take}
use Rattle.std.specs.Prelude.{map}
use Rattle.java_core.specs.Programs.{class_seen}
use Rattle.java_core.specs.Nearest.{superclasses}
use Rattle.name_laws.specs.Resolved.{parents_of}
use Rattle.java_resolve.proofs.parents_of.Given as goal

-- the superclasses of the first classes
abbrev pub invariant-loop-class : goal.invariant-loop-class
invariant-loop-class l =
    (l.parents.items ≡ parents_of (map class_seen (take l.class-index l.class-items)))
    × (l.parents.items ≡ superclasses (take l.class-index l.class-items))
