use Rattle.std.proofs.Common.{◌≡◌, ◌+◌, ◌*◌, drop}
use Rattle.java_tree.specs.Syntax.{stmt_of, stmts, arms_seen, boxed_step}
use Rattle.java_tree.specs.Size.{stmt_size, stmts_size, arms_size, step_size}
use Rattle.java_tree.specs.Arms.{arm_size}
use Rattle.java_compare.proofs.measure.+stmts.Given as goal

abbrev pub decreases-stmt_parts : goal.decreases-stmt_parts
decreases-stmt_parts l = 3 * stmt_size (stmt_of l.stmt.now)

abbrev pub decreases-stmt_count : goal.decreases-stmt_count
decreases-stmt_count l = 3 * stmt_size (stmt_of l.stmt.now) + 1

abbrev pub decreases-step_count : goal.decreases-step_count
decreases-step_count l = 3 * step_size (boxed_step l.step.now) + 2

abbrev pub decreases-stmts_count : goal.decreases-stmts_count
decreases-stmts_count l = 3 * stmts_size (stmts l.list.now) + 2

abbrev pub decreases-arms_count : goal.decreases-arms_count
decreases-arms_count l = 3 * arms_size (arms_seen l.list.now) + 2

abbrev pub invariant-stmts_count-loop-one : goal.invariant-stmts_count-loop-one
invariant-stmts_count-loop-one l = l.all + stmts_size (stmts (drop l.one-index l.list)) ≡ stmts_size (stmts l.list)

abbrev pub invariant-arms_count-loop-one : goal.invariant-arms_count-loop-one
invariant-arms_count-loop-one l = l.all + arms_size (arms_seen (drop l.one-index l.list)) ≡ arms_size (arms_seen l.list)

abbrev pub decreases-arm_count : goal.decreases-arm_count
decreases-arm_count l = 3 * arm_size l.arm.now + 1
