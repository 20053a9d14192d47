use Rattle.std.proofs.Common.{◌≡◌, drop}
use Rattle.java_core.specs.Trees.{exprs}
use Rattle.java_core.specs.Programs.{program_of}
use Rattle.same_program.specs.Same.{one_all}
use Rattle.same_program.proofs.bodies.+exprs.Given as goal

abbrev pub invariant-arguments-loop-i : goal.invariant-arguments-loop-i
invariant-arguments-loop-i l =
    one_all (program_of l.p) (program_of l.q) (exprs (drop l.i l.a.items)) (exprs (drop l.i l.b.items))
    ≡ one_all (program_of l.p) (program_of l.q) (exprs l.a.items) (exprs l.b.items)
