use Rattle.std.proofs.Common.{◌≡◌, drop}
use Rattle.java_core.specs.Trees.{stmts, no_other, arms_seen}
use Rattle.java_core.specs.Programs.{program_of}
use Rattle.same_program.specs.Same.{one_sts, one_arms}
use Rattle.same_program.proofs.bodies.+statements.Given as goal

abbrev pub invariant-statements-loop-i : goal.invariant-statements-loop-i
invariant-statements-loop-i l =
    one_sts (program_of l.p) (program_of l.q) (stmts (drop l.i l.a.items)) (stmts (drop l.i l.b.items))
    ≡ one_sts (program_of l.p) (program_of l.q) (stmts l.a.items) (stmts l.b.items)

abbrev pub invariant-branches-loop-i : goal.invariant-branches-loop-i
invariant-branches-loop-i l =
    one_arms (program_of l.p) (program_of l.q) (arms_seen (drop l.i l.a.items) no_other) (arms_seen (drop l.i l.b.items) no_other)
    ≡ one_arms (program_of l.p) (program_of l.q) (arms_seen l.a.items no_other) (arms_seen l.b.items no_other)
