-- A form that holds lists is the tree over their items, and its code is put together from its end.
use Rattle.std.proofs.Common.{◌≡◌, ◌-◌, [], ◌∷◌, ◌++◌, ℕ, List, Some, length, refl, ap, ◌∙◌}
use Rattle.java_core.specs.Trees.{expr_of, value_of, stmts, else_seen, step_seen}
use Rattle.run_code.specs.Ops.{Op, Test, turn, skip_unless}
use Rattle.run_code.specs.Code.{code_test, test_of, code_turn, code_loop_test, turn_op, code_sts, code_arms}
use Rattle.run_compile.specs.Scopes.{plain, env}
use Rattle.java_core.proofs.Forms.{block_form, if_form, while_form, for_form}
use Rattle.run_compile.proofs.Built.{arm_made, loop_made, if_made}
use Rattle.run_compile.proofs.statements.+statements.Goals as goal
use Rattle.run_compile.proofs.statements.+statements.Goals.{compile_stmt-in-Some+in_ok-compile_stmts-in-If, compile_stmt-in_default}

pub compile_stmt-returns-in-Block : goal.compile_stmt-returns-in-Block
compile_stmt-returns-in-Block t c = let form = block_form _ _ _ c.in-Block.is in rw form c.compile_stmts.ensures

pub compile_stmt-returns-in_ok-compile_arms-in-If : goal.compile_stmt-returns-in_ok-compile_arms-in-If
compile_stmt-returns-in_ok-compile_arms-in-If t c =
    let P = plain c.args.site.scope.now in
    let g = env c.args.site.scope.now in
    let k = c.in-If in
    let x = c.args.exits in
    let old = c.args.code.now in
    let joined : c.match-other.code ≡ code_arms P g (else_seen k.other) c.args.site.at (length old - x.broke) (length old - x.next) ++ old =
    elim c.match-other.branch [
      | compile_stmt-in-Some+in_ok-compile_stmts-in-If w ↦ rw (w.code-is, w.in-Some.is) w.in_ok-compile_stmts-in-If.ensures
      | compile_stmt-in_default w ↦ rw (w.code-is, w.in_default.is) refl
    ] in
    rw (if_form _ _ _ _ k.is) (if_made P g c.args.site.at k.arms.items (else_seen k.other) old c.match-other.code _ x.broke x.next c.len-end.result
    c.len-end.ensures joined (λ o rest l e. c.in_ok-compile_arms-in-If.ensures o rest l e))

pub compile_stmt-returns-in_ok-close_while-in-While : goal.compile_stmt-returns-in_ok-close_while-in-While
compile_stmt-returns-in_ok-close_while-in-While t c =
    let P = plain c.args.site.scope.now in
    let g = env c.args.site.scope.now in
    let k = c.in-While in
    let none : ℕ → ℕ → List Op = λ b d. [] in
    let form = while_form _ _ _ _ k.is in
    rw form (loop_made none (λ b d. code_sts P g (stmts k.body.items) c.args.site.at b d) none (code_turn P g (expr_of k.test) c.args.site.at)
    c.args.code.now
    c.open_while.new.code c.open_while.new.code c.compile_stmts-in-While.new.code c.close_while.new.code c.close_while.new.code (turn 0)
    (λ n. turn_op P g (Some (expr_of k.test)) c.args.site.at n)
    c.args.exits.broke c.args.exits.next c.len-end-in-While.result c.len-tested.result c.len-tested.result c.requires.within.broke c.requires.within.next
    c.len-end-in-While.ensures c.in_ok-open_while-in-While.ensures c.len-tested.ensures refl c.len-tested.ensures c.in_ok-compile_stmts-in-While.ensures
    (λ bs ts rest y l m e. c.in_ok-close_while-in-While.ensures.code P g bs ts rest y l m e) refl)

pub compile_stmt-returns-in_ok-compile_step-in-For-2 : goal.compile_stmt-returns-in_ok-compile_step-in-For-2
compile_stmt-returns-in_ok-compile_step-in-For-2 t c =
    let P = plain c.args.site.scope.now in
    let g = env c.args.site.scope.now in
    let k = c.in-For in
    let form = for_form _ _ _ _ _ _ k.is in
    rw form (loop_made (λ b d. code_sts P g (step_seen k.first) c.args.site.at b d)
    (λ b d. code_sts P g (stmts k.body.items) c.args.site.at b d)
    (λ b d. code_sts P g (step_seen k.step) c.args.site.at b d)
    (code_loop_test P g (value_of k.test) c.args.site.at) c.args.code.now
    c.open_for.new.code c.compile_step.new.code c.compile_stmts-in-For.new.code c.close_for.new.code c.compile_step-in-For.new.code (turn 0)
    (λ n. turn_op P g (value_of k.test) c.args.site.at n)
    c.args.exits.broke c.args.exits.next c.len-end-in-For.result c.len-tested-in-For.result c.len-stepped.result c.requires.within.broke c.requires.within.next
    c.len-end-in-For.ensures
    c.in_ok-open_for-in-For.ensures c.len-tested-in-For.ensures c.in_ok-compile_step-in-For.ensures c.len-stepped.ensures c.in_ok-compile_stmts-in-For.ensures
    (λ bs ts rest y l m e. c.in_ok-close_for-in-For.ensures.code P g bs ts rest y l m e) c.in_ok-compile_step-in-For-2.ensures)

pub compile_arm-returns-clause-code : goal.compile_arm-returns-clause-code
compile_arm-returns-clause-code t c = λ more rest l e.
    let P = plain c.args.site.scope.now in
    let g = env c.args.site.scope.now in
    let a = c.args.arm.now in
    let x = c.args.exits in
    let n = c.in_ok-passed.passed in
    arm_made (code_test P g (expr_of a.test) c.args.site.at) (test_of P g (expr_of a.test) c.args.site.at)
    (λ b d. code_sts P g (stmts a.body.items) c.args.site.at b d) more rest c.args.code.now
    c.pass_over.new.code c.compile_stmts.new.code (skip_unless (test_of P g (expr_of a.test) c.args.site.at) n ∷ c.compile_stmts.new.code)
    c.compile_test.new.code x.broke x.next c.args.end c.len-start.result n
    c.requires.within.broke c.requires.within.next l e c.len-start.ensures (c.in_ok-pass_over.ensures.code more rest l e) c.in_ok-compile_stmts.ensures
    c.in_ok-passed.ensures refl
    (c.in_ok-compile_test.ensures ∙ ap (λ (q : List Op). code_test P g (expr_of a.test) c.args.site.at ++ q) (c.in_ok-put.ensures
    ∙ ap (λ (q : Test). skip_unless q n ∷ c.compile_stmts.new.code) (c.in_ok-test_of.ensures P g)))
