-- Each call has a smaller part to add, or the same part by a function below.
use Rattle.std.proofs.Common.{◌+◌, ◌*◌, List, drop, nat_lt, false}
use Rattle.java_tree.specs.Syntax.{expr_of, exprs}
use Rattle.java_tree.specs.Size.{expr_size, exprs_size}
use Rattle.java_print.specs.Items.{Item}
use Rattle.java_print.specs.Layout.{args_items}
use Rattle.java_print.specs.Adds.{Adds}
use Rattle.java_print.proofs.exprs.+printing.Given as goal

abbrev pub decreases-put_args : goal.decreases-put_args
decreases-put_args l = 5 * exprs_size (exprs l.args.now) + 1

abbrev pub decreases-put_binary : goal.decreases-put_binary
decreases-put_binary l = 5 * (expr_size (expr_of l.left.now) + expr_size (expr_of l.right.now)) + 2

abbrev pub decreases-put_call : goal.decreases-put_call
decreases-put_call l = 5 * exprs_size (exprs l.args.now) + 2

abbrev pub decreases-put_call_on : goal.decreases-put_call_on
decreases-put_call_on l = 5 * (expr_size (expr_of l.base.now) + exprs_size (exprs l.args.now)) + 4

abbrev pub decreases-put_cast : goal.decreases-put_cast
decreases-put_cast l = 5 * expr_size (expr_of l.value.now) + 2

abbrev pub decreases-put_dot_call : goal.decreases-put_dot_call
decreases-put_dot_call l = 5 * exprs_size (exprs l.args.now) + 3

abbrev pub decreases-put_expr : goal.decreases-put_expr
decreases-put_expr l = 5 * expr_size (expr_of l.e.now)

abbrev pub decreases-put_field : goal.decreases-put_field
decreases-put_field l = 5 * expr_size (expr_of l.base.now) + 2

abbrev pub decreases-put_index : goal.decreases-put_index
decreases-put_index l = 5 * (expr_size (expr_of l.base.now) + expr_size (expr_of l.at.now)) + 2

abbrev pub decreases-put_instance_of : goal.decreases-put_instance_of
decreases-put_instance_of l = 5 * expr_size (expr_of l.value.now) + 2

abbrev pub decreases-put_new : goal.decreases-put_new
decreases-put_new l = 5 * exprs_size (exprs l.args.now) + 3

abbrev pub decreases-put_new_array : goal.decreases-put_new_array
decreases-put_new_array l = 5 * expr_size (expr_of l.size.now) + 2

abbrev pub decreases-put_operand : goal.decreases-put_operand
decreases-put_operand l = 5 * expr_size (expr_of l.e.now) + 1

abbrev pub decreases-put_square : goal.decreases-put_square
decreases-put_square l = 5 * expr_size (expr_of l.e.now) + 1

abbrev pub decreases-put_super_call : goal.decreases-put_super_call
decreases-put_super_call l = 5 * exprs_size (exprs l.args.now) + 4

abbrev pub decreases-put_unary : goal.decreases-put_unary
decreases-put_unary l = 5 * expr_size (expr_of l.value.now) + 2

-- the arguments that are left are still to add
abbrev pub invariant-put_args-loop-i : goal.invariant-put_args-loop-i
invariant-put_args-loop-i l = (r : List Item) → Adds l.fn.into.items l.into.items (args_items false (exprs l.args) r)
    (args_items (nat_lt 0 l.i) (exprs (drop l.i l.args)) r)
