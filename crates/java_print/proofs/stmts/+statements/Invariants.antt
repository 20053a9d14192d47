-- Each call has a smaller part to add, or the same part by a function below.
use Rattle.std.proofs.Common.{◌+◌, ◌*◌, List, drop, nat_lt, false}
use Rattle.java_tree.specs.Syntax.{stmt_of, stmts, arms_seen, else_seen}
use Rattle.java_tree.specs.Size.{stmt_size, stmts_size, arms_size, else_size}
use Rattle.java_print.specs.Items.{Item}
use Rattle.java_print.specs.Layout.{stmts_items, arms_items}
use Rattle.java_print.specs.Adds.{Adds}
use Rattle.java_print.proofs.stmts.+statements.Given as goal

abbrev pub decreases-put_stmts : goal.decreases-put_stmts
decreases-put_stmts l = 8 * stmts_size (stmts l.body.now) + 3

abbrev pub decreases-put_stmt : goal.decreases-put_stmt
decreases-put_stmt l = 8 * stmt_size (stmt_of l.s.now) + 1

abbrev pub decreases-put_body : goal.decreases-put_body
decreases-put_body l = 8 * stmts_size (stmts l.body.now) + 4

abbrev pub decreases-put_whole_body : goal.decreases-put_whole_body
decreases-put_whole_body l = 8 * stmts_size (stmts l.body.now) + 5

abbrev pub decreases-put_block : goal.decreases-put_block
decreases-put_block l = 8 * stmts_size (stmts l.body.now) + 4

abbrev pub decreases-put_while : goal.decreases-put_while
decreases-put_while l = 8 * stmts_size (stmts l.body.now) + 6

abbrev pub decreases-put_for : goal.decreases-put_for
decreases-put_for l = 8 * stmts_size (stmts l.body.now) + 6

abbrev pub decreases-put_if : goal.decreases-put_if
decreases-put_if l = 8 * (arms_size (arms_seen l.arms.now) + else_size (else_seen l.other.now)) + 8

abbrev pub decreases-put_arms : goal.decreases-put_arms
decreases-put_arms l = 8 * arms_size (arms_seen l.arms.now) + 6

abbrev pub decreases-put_arm : goal.decreases-put_arm
decreases-put_arm l = 8 * stmts_size (stmts l.body.now) + 5

abbrev pub decreases-put_other : goal.decreases-put_other
decreases-put_other l = 8 * else_size (else_seen l.other.now) + 7

-- the statements that are left are still to add
abbrev pub invariant-put_stmts-loop-s : goal.invariant-put_stmts-loop-s
invariant-put_stmts-loop-s l = (r : List Item) → Adds l.fn.into.items l.into.items (stmts_items l.margin (stmts l.body) r)
    (stmts_items l.margin (stmts (drop l.s-index l.body)) r)

-- the arms that are left are still to add
abbrev pub invariant-put_arms-loop-i : goal.invariant-put_arms-loop-i
invariant-put_arms-loop-i l = (r : List Item) → Adds l.fn.into.items l.into.items (arms_items l.margin false (arms_seen l.arms) r)
    (arms_items l.margin (nat_lt 0 l.i) (arms_seen (drop l.i l.arms)) r)
