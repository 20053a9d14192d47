use Rattle.std.proofs.Common.{◌≡◌, drop}
use Rattle.std.specs.Prelude.{map}
use Rattle.java_core.specs.Programs.{program_of, method_seen}
use Rattle.same_program.specs.Same.{each_has, one_method_as}
use Rattle.same_program.proofs.matched.each_method.Given as goal

abbrev pub invariant-loop-i : goal.invariant-loop-i
invariant-loop-i l = each_has (one_method_as (program_of l.p) (program_of l.q)) (map method_seen (drop l.i l.p.methods.items)) (map method_seen l.q.methods.items)
    ≡ each_has (one_method_as (program_of l.p) (program_of l.q)) (map method_seen l.p.methods.items) (map method_seen l.q.methods.items)
