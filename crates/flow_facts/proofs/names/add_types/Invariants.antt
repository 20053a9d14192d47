use Rattle.java_core.specs.Programs.{class_seen as plain_class}
use Rattle.std.proofs.Common.{◌≡◌, ◌++◌, drop, map}
use Rattle.flow_facts.proofs.names.add_types.Given as goal

abbrev pub invariant-loop-class : goal.invariant-loop-class
invariant-loop-class l = l.names.items ++ map (λ k. k.name) (map plain_class (drop l.class-index l.rest)) ≡ l.fn.names.items
    ++ map (λ k. k.name) (map plain_class l.rest)
