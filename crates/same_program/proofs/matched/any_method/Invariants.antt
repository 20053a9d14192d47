use Rattle.std.proofs.Common.{◌≡◌, drop}
use Rattle.std.specs.Prelude.{map}
use Rattle.std.specs.List.{list_any}
use Rattle.java_core.specs.Programs.{program_of, method_seen}
use Rattle.same_program.specs.Same.{one_method_as}
use Rattle.same_program.proofs.matched.any_method.Given as goal

abbrev pub invariant-loop-i : goal.invariant-loop-i
invariant-loop-i l = list_any (one_method_as (program_of l.p) (program_of l.q) (method_seen l.one)) (map method_seen (drop l.i l.q.methods.items))
    ≡ list_any (one_method_as (program_of l.p) (program_of l.q) (method_seen l.one)) (map method_seen l.q.methods.items)
