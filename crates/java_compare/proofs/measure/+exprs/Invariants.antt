use Rattle.std.proofs.Common.{◌≡◌, ◌+◌, ◌*◌, drop}
use Rattle.java_tree.specs.Syntax.{expr_of, exprs}
use Rattle.java_tree.specs.Size.{expr_size, exprs_size}
use Rattle.java_compare.proofs.measure.+exprs.Given as goal

abbrev pub decreases-expr_count : goal.decreases-expr_count
decreases-expr_count l = 2 * expr_size (expr_of l.expr.now)

abbrev pub decreases-exprs_count : goal.decreases-exprs_count
decreases-exprs_count l = 2 * exprs_size (exprs l.list.now) + 1

abbrev pub invariant-exprs_count-loop-one : goal.invariant-exprs_count-loop-one
invariant-exprs_count-loop-one l = l.all + exprs_size (exprs (drop l.one-index l.list)) ≡ exprs_size (exprs l.list)
