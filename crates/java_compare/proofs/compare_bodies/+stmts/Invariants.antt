use Rattle.std.proofs.Common.{◌≡◌, drop}
use Rattle.java_tree.specs.Syntax.{stmts, arms_seen}
use Rattle.java_compare.specs.Same.{same_stmts, same_arms}
use Rattle.java_compare.proofs.compare_bodies.+stmts.Given as goal

abbrev pub invariant-equal_bodies-loop-i : goal.invariant-equal_bodies-loop-i
invariant-equal_bodies-loop-i l = same_stmts (stmts (drop l.i l.a)) (stmts (drop l.i l.b)) ≡ same_stmts (stmts l.a) (stmts l.b)

abbrev pub invariant-equal_arms-loop-i : goal.invariant-equal_arms-loop-i
invariant-equal_arms-loop-i l = same_arms (arms_seen (drop l.i l.a)) (arms_seen (drop l.i l.b)) ≡ same_arms (arms_seen l.a) (arms_seen l.b)
