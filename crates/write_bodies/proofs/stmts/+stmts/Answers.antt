-- The recursion goes down; a form that holds a list is the tree over the items of the list.
use Rattle.std.proofs.Common.{rules, arith, sym, ap, ◌∙◌}
use Rattle.std.proofs.lemmas.Result.{IfOk-weaker}
use Rattle.java_core.specs.Trees.{at_place, no_other, value_of, stmts, arms_seen, else_seen, step_seen}
use Rattle.std.specs.Prelude.{Option}
use Rattle.std.specs.declared.vec.Vec.{Vec}
use Rattle.std.specs.declared.alloc.Global.{Global}
use Rattle.java_core.specs.declared.RStmt.{RStmt}
use Rattle.java_tree.specs.Syntax as tree
use Rattle.java_tree.proofs.Appended.{append_stmts, append_arms, stmts_end, arms_end}
use Rattle.write_bodies.specs.Written.{statement, statements, arms, otherwise}
use Rattle.java_core.proofs.StatementSize.{st_size}
use Rattle.write_bodies.proofs.Sizes.{choice_sizes, stmt_within, arm_within}
use Rattle.java_core.proofs.Forms.{block_form, if_form, while_form, for_form}
use Rattle.write_bodies.proofs.Bodies.{arms_alike, else_alike, for_is}
use Rattle.write_bodies.proofs.Steps.{sts_next, arms_next, all_written}
use Rattle.write_bodies.proofs.stmts.+stmts.Goals as goal

pub body-loop-one-preserved : goal.body-loop-one-preserved
body-loop-one-preserved t c =
    sts_next c.args.within.now c.loop-one.inner.items c.stmt.new.scope.items c.loop-one.done.items c.push.new.self.items c.deref-one-items.result.now
    c.loop-one.one-index c.one-item.result c.in-Ok-made.field-0 c.loop-one-test.true c.one-item.is c.in-Ok-made.ensures.value c.in-Ok-made.ensures.scope
    c.in-Ok-made-2.ensures.items c.loop-one.invariant

pub body-returns : goal.body-returns
body-returns t c = record {
  value = all_written append_stmts (λ xs. statements c.args.within.now c.loop-one.inner.items (stmts xs)) (tree.stmts c.loop-one.done.items)
      c.deref-one-items.result.now c.loop-one.one-index (stmts_end (tree.stmts c.loop-one.done.items)) c.loop-one.invariant
      (omega (arith, c.loop-one-test.false));
}

pub body-stmt-requires : goal.body-stmt-requires
body-stmt-requires t c = (omega (arith, c.decreases, stmt_within c.deref-one-items.ensures.value c.loop-one-test.true c.one-item.is), c.requires)

pub stmt-body-requires : goal.stmt-body-requires
stmt-body-requires t c = (omega (arith, c.decreases, ap st_size (block_form _ c.in-Block.items _ c.in-Block.is)), c.requires)

pub stmt-body-requires-in-While : goal.stmt-body-requires-in-While
stmt-body-requires-in-While t c = (omega (arith, c.decreases, ap st_size (while_form _ _ c.in-While.run' _ c.in-While.is)), c.requires)

pub stmt-body-requires-in-For : goal.stmt-body-requires-in-For
stmt-body-requires-in-For t c = (
  omega (arith, c.decreases, ap st_size (for_form _ c.in-For.first c.in-For.test c.in-For.step c.in-For.run' _ c.in-For.is)),
  c.requires,
)

pub stmt-all_arms-requires : goal.stmt-all_arms-requires
stmt-all_arms-requires t c = (omega (arith, c.decreases, (choice_sizes c.in-If.arms c.in-If.other c.in-If.is).0), c.requires)

pub stmt-otherwise-requires : goal.stmt-otherwise-requires
stmt-otherwise-requires t c = (omega (arith, c.decreases, (choice_sizes c.in-If.arms c.in-If.other c.in-If.is).1), c.requires)

pub all_arms-body-requires : goal.all_arms-body-requires
all_arms-body-requires t c = (omega (arith, c.decreases, arm_within c.deref-one-items.ensures.value c.loop-one-test.true c.one-item.is), c.requires)

pub all_arms-loop-one-preserved : goal.all_arms-loop-one-preserved
all_arms-loop-one-preserved t c =
    arms_next c.args.within.now c.args.scope.now.items no_other c.loop-one.done.items c.push.new.self.items c.deref-one-items.result.now
    c.loop-one.one-index c.one-item.result (record { test = c.in-Ok-made.field-0; body = c.in-Ok-made-run.field-0 }) c.loop-one-test.true c.one-item.is
    c.in-Ok-made.ensures.value c.in-Ok-made-run.ensures.value c.in-Ok-made-2.ensures.items c.loop-one.invariant

pub all_arms-returns : goal.all_arms-returns
all_arms-returns t c = record {
  value = all_written append_arms (λ xs. arms c.args.within.now c.args.scope.now.items (arms_seen xs no_other)) (tree.arms_seen c.loop-one.done.items)
      c.deref-one-items.result.now c.loop-one.one-index (arms_end (tree.arms_seen c.loop-one.done.items)) c.loop-one.invariant
      (omega (arith, c.loop-one-test.false));
}

pub stmt-returns-in_ok-items-in-Block-clause-value : goal.stmt-returns-in_ok-items-in-Block-clause-value
stmt-returns-in_ok-items-in-Block-clause-value t c = let form = block_form _ c.in-Block.items _ c.in-Block.is in rw form (search rules)

pub stmt-returns-in-Ok-made-run-clause-value : goal.stmt-returns-in-Ok-made-run-clause-value
stmt-returns-in-Ok-made-run-clause-value t c = let form = while_form _ _ c.in-While.run' _ c.in-While.is in rw form (search rules)

pub stmt-returns-in-Ok-made-other-clause-value : goal.stmt-returns-in-Ok-made-other-clause-value
stmt-returns-in-Ok-made-other-clause-value t c =
    let w = c.args.within.now in
    let form = if_form _ c.in-If.arms c.in-If.other _ c.in-If.is in
    let choice = arms_alike w c.args.scope.now.items c.in-If.arms.items c.in-If.other in
    let last = else_alike w c.args.scope.now.items c.in-If.arms.items (else_seen c.in-If.other) in
    rw (form, choice, last) (search rules)

pub stmt-returns-in-Ok-made-run-2-clause-value : goal.stmt-returns-in-Ok-made-run-2-clause-value
stmt-returns-in-Ok-made-run-2-clause-value t c =
    let w = c.args.within.now in
    let scope = c.args.scope.now.items in
    let a = c.in-For in
    let is = for_is w scope c.in_ok-inner-in-For.inner.items c.part.new.scope.items (at_place a.place)
    (step_seen a.first) (value_of a.test)
    (step_seen a.step) (stmts a.run'.items) c.in_ok-inner-in-For.ensures c.in-Ok-made-first.ensures.scope c.in-Ok-made-first.ensures.value
    c.in-Ok-made-test.ensures.value c.in-Ok-made-step.ensures.value c.in-Ok-made-run-2.ensures.value c.nowhere-in-For.ensures in
    let form = for_form _ a.first a.test a.step a.run' _ a.is in
    IfOk-weaker c.for_loop.result _ _ (λ s h. h ∙ is ∙ sym (ap (statement w scope) form)) c.for_loop.ensures.value

pub otherwise-returns-in_ok-other-in-Some : goal.otherwise-returns-in_ok-other-in-Some
otherwise-returns-in_ok-other-in-Some t c =
    let w = c.args.within.now in
    let some = ap (λ (o : Option (Vec RStmt Global)). otherwise w c.args.scope.now.items (else_seen o)) c.in-Some.is in
    record { value = ap tree.otherwise c.in_ok-other-in-Some.ensures.value ∙ sym some }
