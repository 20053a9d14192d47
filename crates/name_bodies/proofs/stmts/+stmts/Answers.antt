use Rattle.std.proofs.Common.{arith, ap}
use Rattle.java_tree.specs.Syntax.{stmts, arms_seen}
use Rattle.java_tree.specs.Size.{stmt_size, stmts_size, arms_size}
use Rattle.java_core.specs.Trees as core
use Rattle.java_core.specs.Trees.{no_other}
use Rattle.java_tree.proofs.Sizes.{test_positive}
use Rattle.name_bodies.specs.Views.{table_at}
use Rattle.name_bodies.specs.Views.{state_of}
use Rattle.name_bodies.proofs.StatementRows.{block_shown, while_shown, if_shown, for_shown}
use Rattle.name_bodies.proofs.StatementSteps.{sts_next, arms_next, arms_fault, if_fault, if_given, for_given, for_fault, carry_st, stmt_within, arm_within}
use Rattle.name_bodies.proofs.stmts.+stmts.Goals as goal

pub behind-loop-one-preserved : goal.behind-loop-one-preserved
behind-loop-one-preserved t c =
    sts_next (table_at c.args.within.now) c.args.within.now.here c.args.within.now.inside c.loop-one.inner c.stmt.new.scope (state_of c.loop-one.body)
    (state_of c.stmt.new.body) c.loop-one.done.items c.push.new.self.items c.deref-one-items.result.now c.loop-one.one-index c.one-item.result
    c.in_ok-stmt.field-0 _ c.loop-one-test.true c.one-item.is c.in_ok-stmt.ensures.given c.in_ok-push.ensures.items c.loop-one.invariant

pub stmt-returns-in-Block : goal.stmt-returns-in-Block
stmt-returns-in-Block t c =
    record {
      given = carry_st (λ s. (core.stmt_of s, c.args.scope.now, state_of c.block.new.body)) c.block.result
          (table_at c.args.within.now) c.args.within.now.here c.args.within.now.inside c.args.scope.now (state_of c.args.body.now)
          (block_shown _ _ _ c.in-Block.is)
          c.block.ensures.given;
    }

pub stmt-returns-in-While : goal.stmt-returns-in-While
stmt-returns-in-While t c =
    record {
      given = carry_st (λ s. (core.stmt_of s, c.args.scope.now, state_of c.while_loop.new.body)) c.while_loop.result
          (table_at c.args.within.now) c.args.within.now.here c.args.within.now.inside c.args.scope.now (state_of c.args.body.now)
          (while_shown _ _ _ _ c.in-While.is)
          c.while_loop.ensures.given;
    }

pub stmt-returns-in-Ok : goal.stmt-returns-in-Ok
stmt-returns-in-Ok t c =
    record {
      given = if_given (λ s. (core.stmt_of s, c.args.scope.now, state_of c.choice.new.body)) c.choice.result
          (table_at c.args.within.now) c.args.within.now.here c.args.within.now.inside c.args.scope.now (state_of c.args.body.now) (state_of c.arms.new.body)
          (core.arms_seen c.in-Ok.done.items no_other)
          (if_shown _ _ _ _ c.in-If.is) c.in-Ok.ensures.given c.choice.ensures.given;
    }

pub stmt-returns-in-Err : goal.stmt-returns-in-Err
stmt-returns-in-Err t c =
    record {
      given = if_fault c.in-Err.refusal (table_at c.args.within.now) c.args.within.now.here c.args.within.now.inside c.args.scope.now
          (state_of c.args.body.now) (if_shown _ _ _ _ c.in-If.is) c.in-Err.ensures.given;
    }

pub stmt-returns-in-Ok-optional : goal.stmt-returns-in-Ok-optional
stmt-returns-in-Ok-optional t c =
    record {
      given = for_given (λ s. (core.stmt_of s, c.args.scope.now, state_of c.for_body.new.body)) c.for_body.result
          (table_at c.args.within.now) c.args.within.now.here c.args.within.now.inside c.args.scope.now c.within-inner.result (state_of c.args.body.now)
          (core.step_seen c.in_ok-first-in-For.first, c.optional.new.scope, state_of c.optional.new.body)
          (core.value_of c.in_ok-test-in-For.test, state_of c.value-in-For.new.body)
          (core.step_seen c.in-Ok-optional.last, c.optional-in-For.new.scope, state_of c.optional-in-For.new.body)
          (for_shown _ _ _ _ _ _ c.in-For.is) c.within-inner.ensures.value c.in_ok-first-in-For.ensures.given c.in_ok-test-in-For.ensures.given
          c.in-Ok-optional.ensures.given (c.for_body.ensures.given c.args.scope.now);
    }

pub stmt-returns-in-Err-optional : goal.stmt-returns-in-Err-optional
stmt-returns-in-Err-optional t c =
    record {
      given = for_fault c.in-Err-optional.refusal (table_at c.args.within.now) c.args.within.now.here c.args.within.now.inside c.args.scope.now
          c.within-inner.result
          (state_of c.args.body.now) (core.step_seen c.in_ok-first-in-For.first, c.optional.new.scope, state_of c.optional.new.body)
          (core.value_of c.in_ok-test-in-For.test, state_of c.value-in-For.new.body) (for_shown _ _ _ _ _ _ c.in-For.is)
          c.within-inner.ensures.value c.in_ok-first-in-For.ensures.given c.in_ok-test-in-For.ensures.given c.in-Err-optional.ensures.given;
    }

pub arms-loop-one-preserved : goal.arms-loop-one-preserved
arms-loop-one-preserved t c =
    arms_next (table_at c.args.within.now) c.args.within.now.here c.args.within.now.inside c.args.scope.now (state_of c.loop-one.body) (state_of c.arm.new.body)
    c.loop-one.done.items c.push.new.self.items c.deref-one-items.result.now c.loop-one.one-index c.one-item.result c.in-Ok.arm _
    c.loop-one-test.true c.one-item.is c.in-Ok.ensures.given c.in_ok-push-in-Ok.ensures.items c.loop-one.invariant

pub arms-returns-in-Err : goal.arms-returns-in-Err
arms-returns-in-Err t c =
    record {
      given = arms_fault (table_at c.args.within.now) c.args.within.now.here c.args.within.now.inside c.in-Err.refusal c.args.scope.now
          (state_of c.loop-one.body) c.loop-one.done.items c.deref-one-items.result.now c.loop-one.one-index c.one-item.result _ c.loop-one-test.true
          c.one-item.is c.in-Err.ensures.given c.loop-one.invariant;
    }

-- the recursion goes down
pub arms-arm-requires : goal.arms-arm-requires
arms-arm-requires t c =
    let p = arm_within c.deref-one-items.result.now c.loop-one.one-index c.one-item.result c.loop-one-test.true c.one-item.is in
    let q = ap (λ xs. arms_size (arms_seen xs)) c.deref-one-items.ensures.value in (omega (arith, p, q), tt)

pub arm-statements-requires : goal.arm-statements-requires
arm-statements-requires t c = let p = test_positive c.args.tree.now.test in (omega (arith, p), tt)

pub behind-stmt-requires : goal.behind-stmt-requires
behind-stmt-requires t c =
    let p = stmt_within c.deref-one-items.result.now c.loop-one.one-index c.one-item.result c.loop-one-test.true c.one-item.is in
    let q = ap (λ xs. stmts_size (stmts xs)) c.deref-one-items.ensures.value in (omega (arith, p, q), tt)

pub stmt-block-requires : goal.stmt-block-requires
stmt-block-requires t c = let p = ap stmt_size (block_shown _ _ _ c.in-Block.is) in (omega (arith, p), tt)

pub stmt-arms-requires : goal.stmt-arms-requires
stmt-arms-requires t c = let p = ap stmt_size (if_shown _ _ _ _ c.in-If.is) in (omega (arith, p), tt)

pub stmt-choice-requires : goal.stmt-choice-requires
stmt-choice-requires t c = let p = ap stmt_size (if_shown _ _ _ _ c.in-If.is) in (omega (arith, p), tt)

pub stmt-while_loop-requires : goal.stmt-while_loop-requires
stmt-while_loop-requires t c = let p = ap stmt_size (while_shown _ _ _ _ c.in-While.is) in (omega (arith, p), tt)

pub stmt-for_body-requires : goal.stmt-for_body-requires
stmt-for_body-requires t c = let p = ap stmt_size (for_shown _ _ _ _ _ _ c.in-For.is) in (omega (arith, p), tt)
