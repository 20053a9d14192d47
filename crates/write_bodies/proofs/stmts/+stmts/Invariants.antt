-- What is written so far and the rest is the whole; each call has a smaller statement, or the same by a function below.
use Rattle.std.proofs.Common.{◌≡◌, ◌+◌, ◌*◌, drop}
use Rattle.java_tree.specs.Syntax as tree
use Rattle.java_tree.proofs.Appended.{append_stmts, append_arms}
use Rattle.java_core.specs.Trees.{no_other, stmt_of, stmts, arms_seen, else_seen, step_seen}
use Rattle.write_bodies.specs.Written.{statements, arms}
use Rattle.java_core.proofs.StatementSize.{st_size, sts_size, arms_size}
use Rattle.write_bodies.proofs.stmts.+stmts.Given as goal

abbrev pub decreases-stmt : goal.decreases-stmt
decreases-stmt l = 4 * st_size (stmt_of l.tree.now)

abbrev pub decreases-body : goal.decreases-body
decreases-body l = 4 * sts_size (stmts l.list.now.items) + 1

abbrev pub invariant-body-loop-one : goal.invariant-body-loop-one
invariant-body-loop-one l =
    append_stmts (tree.stmts l.done.items) (statements l.within l.inner.items (stmts (drop l.one-index l.one-items)))
    ≡ statements l.within l.scope.items (stmts l.list.items)

abbrev pub decreases-part : goal.decreases-part
decreases-part l = 4 * sts_size (step_seen l.tree.now) + 1

abbrev pub decreases-last : goal.decreases-last
decreases-last l = 4 * sts_size (step_seen l.tree.now) + 2

abbrev pub decreases-all_arms : goal.decreases-all_arms
decreases-all_arms l = 4 * arms_size (arms_seen l.list.now.items no_other) + 2

abbrev pub invariant-all_arms-loop-one : goal.invariant-all_arms-loop-one
invariant-all_arms-loop-one l =
    append_arms (tree.arms_seen l.done.items) (arms l.within l.scope.items (arms_seen (drop l.one-index l.one-items) no_other))
    ≡ arms l.within l.scope.items (arms_seen l.list.items no_other)

abbrev pub decreases-otherwise : goal.decreases-otherwise
decreases-otherwise l = 4 * arms_size (else_seen l.tree.now) + 2
