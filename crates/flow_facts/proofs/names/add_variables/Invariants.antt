use Rattle.std.proofs.Common.{◌≡◌, ◌++◌, drop, map}
use Rattle.java_core.specs.Programs.{local_seen}
use Rattle.flow_facts.proofs.names.add_variables.Given as goal

abbrev pub invariant-loop-local : goal.invariant-loop-local
invariant-loop-local l = l.names.items ++ map (λ v. v.name) (map local_seen (drop l.local-index l.locals.items)) ≡ l.fn.names.items
    ++ map (λ v. v.name) (map local_seen l.locals.items)
