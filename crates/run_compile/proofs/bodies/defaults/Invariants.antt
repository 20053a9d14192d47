use Rattle.std.proofs.Common.{◌≡◌, ◌++◌, drop, map}
use Rattle.java_core.specs.Programs.{local_seen}
use Rattle.java_core.specs.Types.{types_of}
use Rattle.java_heap.specs.Seen.{value_of}
use Rattle.java_meaning.specs.Values.{default_of}
use Rattle.run_compile.proofs.bodies.defaults.Given as goal

abbrev pub invariant-loop-local : goal.invariant-loop-local
invariant-loop-local l =
    map value_of l.values.items ++ map default_of (types_of (map local_seen (drop l.local-index l.locals.items)))
    ≡ map default_of (types_of (map local_seen l.locals.items))
