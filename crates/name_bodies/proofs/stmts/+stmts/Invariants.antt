use Rattle.std.proofs.Common.{◌≡◌, ◌+◌, ◌*◌, drop}
use Rattle.java_tree.specs.Syntax.{stmt_of, stmts, arms_seen, else_seen, boxed_step}
use Rattle.java_tree.specs.Size.{stmt_size, stmts_size, arms_size, else_size, step_size}
use Rattle.java_tree.specs.Arms.{arm_size}
use Rattle.java_core.specs.Trees as core
use Rattle.java_core.specs.Trees.{no_other}
use Rattle.name_bodies.specs.Views.{table_at}
use Rattle.name_laws.specs.Statements.{walk_sts, walk_arms}
use Rattle.name_bodies.specs.Views.{state_of}
use Rattle.name_bodies.proofs.stmts.+stmts.Given as goal

-- what the arms so far and the rest resolve to is what all resolve to
abbrev pub invariant-arms-loop-one : goal.invariant-arms-loop-one
invariant-arms-loop-one l =
    walk_arms (table_at l.within) l.within.here l.within.inside (core.arms_seen l.done.items no_other) l.scope (state_of l.body)
    (arms_seen (drop l.one-index l.one-items))
    ≡ walk_arms (table_at l.within) l.within.here l.within.inside no_other l.scope (state_of l.fn.body) (arms_seen l.list.items)

-- what the statements so far and the rest resolve to is what all resolve to
abbrev pub invariant-behind-loop-one : goal.invariant-behind-loop-one
invariant-behind-loop-one l =
    walk_sts (table_at l.within) l.within.here l.within.inside (core.stmts l.done.items) l.inner (state_of l.body)
    (stmts (drop l.one-index l.one-items))
    ≡ walk_sts (table_at l.within) l.within.here l.within.inside (core.stmts l.fn.before.items) l.scope (state_of l.fn.body) (stmts l.list.items)

abbrev pub decreases-stmt : goal.decreases-stmt
decreases-stmt l = 5 * stmt_size (stmt_of l.tree.now)

abbrev pub decreases-block : goal.decreases-block
decreases-block l = 5 * stmts_size (stmts l.items.now.items) + 3

abbrev pub decreases-choice : goal.decreases-choice
decreases-choice l = 5 * else_size (else_seen l.other.now) + 4

abbrev pub decreases-while_loop : goal.decreases-while_loop
decreases-while_loop l = 5 * stmts_size (stmts l.run.now.items) + 3

abbrev pub decreases-for_body : goal.decreases-for_body
decreases-for_body l = 5 * stmts_size (stmts l.run.now.items) + 3

abbrev pub decreases-optional : goal.decreases-optional
decreases-optional l = 5 * step_size (boxed_step l.tree.now) + 1

abbrev pub decreases-otherwise : goal.decreases-otherwise
decreases-otherwise l = 5 * else_size (else_seen l.tree.now) + 3

abbrev pub decreases-arm : goal.decreases-arm
decreases-arm l = 5 * arm_size l.tree.now

abbrev pub decreases-arms : goal.decreases-arms
decreases-arms l = 5 * arms_size (arms_seen l.list.now.items) + 1

abbrev pub decreases-statements : goal.decreases-statements
decreases-statements l = 5 * stmts_size (stmts l.list.now.items) + 2

abbrev pub decreases-behind : goal.decreases-behind
decreases-behind l = 5 * stmts_size (stmts l.list.now.items) + 1
