use Rattle.std.proofs.Common.{◌≡◌, ◌++◌, drop, map, Some}
use Rattle.java_core.specs.Programs.{local_seen}
use Rattle.java_core.specs.Types.{types_of}
use Rattle.run_code.specs.Code.{is_int}
use Rattle.run_compile.proofs.bodies.ints.Given as goal

abbrev pub invariant-loop-param : goal.invariant-loop-param
invariant-loop-param l =
    l.ints.items ++ map (λ t. is_int (Some t)) (types_of (map local_seen (drop l.param-index l.params.items)))
    ≡ map (λ t. is_int (Some t)) (types_of (map local_seen l.params.items))
