use Rattle.std.proofs.Common.{◌≡◌, drop}
use Rattle.java_tree.specs.Syntax.{exprs}
use Rattle.java_compare.specs.Same.{same_exprs}
use Rattle.java_compare.proofs.compare_bodies.+exprs.Given as goal

abbrev pub invariant-equal_args-loop-i : goal.invariant-equal_args-loop-i
invariant-equal_args-loop-i l = same_exprs (exprs (drop l.i l.a)) (exprs (drop l.i l.b)) ≡ same_exprs (exprs l.a) (exprs l.b)
