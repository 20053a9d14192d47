-- Each call has a smaller statement, or the same by a function below.
use Rattle.std.proofs.Common.{◌≡◌, ◌+◌, ◌*◌, drop}
use Rattle.java_core.specs.Trees.{stmt_of, stmts, arms_seen, else_seen, step_seen}
use Rattle.java_core.specs.Programs.{program_of}
use Rattle.java_check.specs.Outcome.{env_in}
use Rattle.java_check.specs.StatementOutcome.{sts_answer, arms_answer}
use Rattle.java_core.proofs.StatementSize.{st_size, sts_size, arms_size}
use Rattle.java_check.proofs.statements.+statements.Given as goal

abbrev pub decreases-check_stmt : goal.decreases-check_stmt
decreases-check_stmt l = 2 * st_size (stmt_of l.s.now)

abbrev pub decreases-check_stmts : goal.decreases-check_stmts
decreases-check_stmts l = 2 * sts_size (stmts l.list.now)

abbrev pub decreases-check_step : goal.decreases-check_step
decreases-check_step l = 2 * sts_size (step_seen l.step.now)

abbrev pub decreases-check_arms : goal.decreases-check_arms
decreases-check_arms l = 2 * arms_size (arms_seen l.arms.now (else_seen l.other.now)) + 1

abbrev pub invariant-check_stmts-loop-s : goal.invariant-check_stmts-loop-s
invariant-check_stmts-loop-s l =
    let P = program_of l.p in
    sts_answer P (env_in P l.body.0) (stmts l.list) ≡ sts_answer P (env_in P l.body.0) (stmts (drop l.s-index l.list))

abbrev pub invariant-check_arms-loop-arm : goal.invariant-check_arms-loop-arm
invariant-check_arms-loop-arm l =
    let P = program_of l.p in
    let other = else_seen l.other in
    arms_answer P (env_in P l.body.0) (arms_seen l.arms other) ≡ arms_answer P (env_in P l.body.0) (arms_seen (drop l.arm-index l.arms) other)
