use Rattle.std.proofs.Common.{sym, ap, ◌∙◌, arith}
use Rattle.java_core.specs.Trees.{stmt_of, stmts, arms_seen, else_seen, step_seen}
use Rattle.java_core.specs.Programs.{program_of}
use Rattle.java_check.specs.Outcome.{env_in}
use Rattle.java_check.specs.StatementOutcome.{st_answer, sts_answer, arms_answer}
use Rattle.java_core.proofs.StatementSize.{st_size, sts_size, arms_size, stmt_smaller, arm_smaller, else_smaller}
use Rattle.java_check.proofs.Forms.{block_seen, if_seen, while_seen, for_seen, while_body, for_body, held_size}
use Rattle.java_check.proofs.statements.+statements.Goals as goal

pub check_stmt-returns-in-Block : goal.check_stmt-returns-in-Block
check_stmt-returns-in-Block t c =
    let P = program_of c.args.p.now in
    let g = env_in P c.args.body.0 in
    c.check_stmts.ensures ∙ ap (λ xs. sts_answer P g (stmts xs)) c.deref.ensures.value
    ∙ sym (ap (st_answer P g) (block_seen c.in-Block.items c.in-Block.place c.in-Block.is))

pub check_stmt-returns-in-If : goal.check_stmt-returns-in-If
check_stmt-returns-in-If t c =
    let P = program_of c.args.p.now in
    let g = env_in P c.args.body.0 in
    c.check_arms.ensures ∙ ap (λ xs. arms_answer P g (arms_seen xs (else_seen c.in-If.other))) c.deref-in-If.ensures.value
    ∙ sym (ap (st_answer P g) (if_seen c.in-If.arms c.in-If.other c.in-If.place c.in-If.is))

pub check_stmt-returns-in-Ok : goal.check_stmt-returns-in-Ok
check_stmt-returns-in-Ok t c =
    let P = program_of c.args.p.now in
    let g = env_in P c.args.body.0 in
    c.check_stmts-in-Ok.ensures ∙ ap (λ xs. sts_answer P g (stmts xs)) c.deref-in-Ok.ensures.value
    ∙ while_body P g c.in-While.test c.in-While.items c.in-While.place c.in-While.is c.check_condition.ensures c.in-Ok.is

pub check_stmt-returns-in_default-check_step : goal.check_stmt-returns-in_default-check_step
check_stmt-returns-in_default-check_step t c =
    let P = program_of c.args.p.now in
    let g = env_in P c.args.body.0 in
    let k = c.in-For in
    c.check_stmts-in-For.ensures ∙ ap (λ xs. sts_answer P g (stmts xs)) c.deref-in-For.ensures.value
    ∙ for_body P g k.first k.test k.step k.items k.place k.is c.check_step.ensures c.in_default.is c.check_test.ensures c.in_default-check_test.is
    c.check_step-in-For.ensures c.in_default-check_step.is

pub check_stmts-check_stmt-requires : goal.check_stmts-check_stmt-requires
check_stmts-check_stmt-requires t c =
    (omega (arith, c.decreases, stmt_smaller c.args.list.now c.loop-s.s-index c.s-item.result c.loop-s-test.true c.s-item.is), c.requires)

pub check_stmt-check_stmts-requires : goal.check_stmt-check_stmts-requires
check_stmt-check_stmts-requires t c =
    let form = ap st_size (block_seen c.in-Block.items c.in-Block.place c.in-Block.is) in
    (omega (arith, c.decreases, form, held_size c.deref.ensures.value), c.requires)

pub check_stmt-check_arms-requires : goal.check_stmt-check_arms-requires
check_stmt-check_arms-requires t c =
    let form = ap st_size (if_seen c.in-If.arms c.in-If.other c.in-If.place c.in-If.is) in
    let arms = ap (λ xs. arms_size (arms_seen xs (else_seen c.in-If.other))) c.deref-in-If.ensures.value in
    (omega (arith, c.decreases, form, arms), c.requires)

pub check_stmt-check_stmts-requires-in-Ok : goal.check_stmt-check_stmts-requires-in-Ok
check_stmt-check_stmts-requires-in-Ok t c =
    let form = ap st_size (while_seen c.in-While.test c.in-While.items c.in-While.place c.in-While.is) in
    (omega (arith, c.decreases, form, held_size c.deref-in-Ok.ensures.value), c.requires)

pub check_stmt-check_step-requires : goal.check_stmt-check_step-requires
check_stmt-check_step-requires t c = (
  omega (arith, c.decreases, ap st_size (for_seen c.in-For.first c.in-For.test c.in-For.step c.in-For.items c.in-For.place c.in-For.is)),
  c.requires,
)

pub check_stmt-check_step-requires-in-For : goal.check_stmt-check_step-requires-in-For
check_stmt-check_step-requires-in-For t c = (
  omega (arith, c.decreases, ap st_size (for_seen c.in-For.first c.in-For.test c.in-For.step c.in-For.items c.in-For.place c.in-For.is)),
  c.requires,
)

pub check_stmt-check_stmts-requires-in-For : goal.check_stmt-check_stmts-requires-in-For
check_stmt-check_stmts-requires-in-For t c =
    let form = ap st_size (for_seen c.in-For.first c.in-For.test c.in-For.step c.in-For.items c.in-For.place c.in-For.is) in
    (omega (arith, c.decreases, form, held_size c.deref-in-For.ensures.value), c.requires)

pub check_arms-check_stmts-requires-in-Some : goal.check_arms-check_stmts-requires-in-Some
check_arms-check_stmts-requires-in-Some t c =
    let less = else_smaller c.args.arms.now (else_seen c.args.other.now) in
    let other = ap (λ o. arms_size (else_seen o)) c.in-Some.is in
    (omega (arith, c.decreases, less, other, held_size c.deref-in-Some.ensures.value), c.requires)

pub check_arms-check_stmts-requires : goal.check_arms-check_stmts-requires
check_arms-check_stmts-requires t c =
    let less = arm_smaller c.args.arms.now (else_seen c.args.other.now) c.loop-arm.arm-index c.arm-item.result c.loop-arm-test.true
    c.arm-item.is in
    (omega (arith, c.decreases, less, held_size c.deref.ensures.value), c.requires)

pub check_step-check_stmt-requires : goal.check_step-check_stmt-requires
check_step-check_stmt-requires t c = (
  omega (arith, c.decreases, ap (λ o. sts_size (step_seen o)) c.in-Some.is, ap (λ x. st_size (stmt_of x)) c.deref.ensures),
  c.requires,
)
