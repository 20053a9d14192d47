use Rattle.std.proofs.Common.{◌∙◌, ap, sym, arith, false}
use Rattle.java_tree.specs.Syntax.{expr_of, value_of, stmt_of, stmts, arms_seen, else_seen, BlockOf, IfOf, WhileOf, ForOf}
use Rattle.java_print.specs.Layout.{stmts_items, arms_items}
use Rattle.java_tree.specs.Syntax.{boxed_step}
use Rattle.java_print.proofs.Adding.{both_put, on_ok}
use Rattle.java_print.proofs.StmtAdding.{block_of, while_of, for_of, if_of, bare_along, stmt_smaller, stmts_step, stmts_end, arm_smaller, arms_step, arms_end, deeper_as, other_along}
use Rattle.java_tree.specs.Size.{stmt_size, stmts_size, arms_size, else_size}
use Rattle.java_print.proofs.stmts.+statements.Goals as goal

pub put_while-returns : goal.put_while-returns
put_while-returns t c = record { value = on_ok c.put_whole_body.result c.put_whole_body.ensures.value (both_put c.in_ok-put_tested.ensures.value) }

pub put_for-returns : goal.put_for-returns
put_for-returns t c = record { value = on_ok c.put_whole_body.result c.put_whole_body.ensures.value (both_put c.in_ok-put_for_head.ensures.value) }

pub put_arm-returns : goal.put_arm-returns
put_arm-returns t c = record { value = on_ok c.put_body.result c.put_body.ensures.value (both_put c.in_ok-put_tested.ensures.value) }

pub put_if-returns : goal.put_if-returns
put_if-returns t c = record { value = on_ok c.put_other.result c.put_other.ensures.value (both_put c.in_ok-put_arms.ensures.value) }

pub put_stmts-put_stmt-requires : goal.put_stmts-put_stmt-requires
put_stmts-put_stmt-requires t c = (omega (arith, c.decreases, stmt_smaller c.args.body.now c.loop-s.s-index c.s-item.result c.loop-s-test.true c.s-item.is), tt)

pub put_stmts-loop-s-preserved : goal.put_stmts-loop-s-preserved
put_stmts-loop-s-preserved t c = stmts_step c.args.into.now.items c.loop-s.into.items c.put_margin.new.into.items c.put_stmt.new.into.items
    c.args.margin c.args.body.now c.loop-s.s-index c.s-item.result (stmts_items c.args.margin (stmts c.args.body.now))
    c.loop-s-test.true c.s-item.is c.loop-s.invariant c.in_ok-put_margin.ensures.value c.in_ok-put_stmt.ensures.value

pub put_stmts-returns : goal.put_stmts-returns
put_stmts-returns t c = record {
  value = stmts_end c.args.into.now.items c.loop-s.into.items c.args.margin c.args.body.now c.loop-s.s-index
      (stmts_items c.args.margin (stmts c.args.body.now)) c.loop-s-test.false c.loop-s.invariant;
}

pub put_arms-put_arm-requires : goal.put_arms-put_arm-requires
put_arms-put_arm-requires t c = (
  omega (
    arith,
    c.decreases,
    arm_smaller c.args.arms.now c.loop-i.i c.index-arms-i.result c.loop-i-test.true c.index-arms-i.is,
    ap
        (λ xs. stmts_size (stmts xs)) c.as_slice.ensures.value,
  ),
  tt,
)

pub put_arms-loop-i-preserved : goal.put_arms-loop-i-preserved
put_arms-loop-i-preserved t c = arms_step c.args.into.now.items c.loop-i.into.items c.put_else.new.into.items c.put_arm.new.into.items c.args.margin
    c.args.arms.now c.loop-i.i c.index-arms-i.result c.as_slice.result.now (arms_items c.args.margin false (arms_seen c.args.arms.now))
    c.loop-i-test.true c.index-arms-i.is c.as_slice.ensures.value c.loop-i.invariant c.in_ok-put_else.ensures.value c.in_ok-put_arm.ensures.value

pub put_arms-returns : goal.put_arms-returns
put_arms-returns t c = record {
  value = arms_end c.args.into.now.items c.loop-i.into.items c.args.margin c.args.arms.now c.loop-i.i
      (arms_items c.args.margin false (arms_seen c.args.arms.now)) c.loop-i-test.false c.loop-i.invariant;
}

pub put_stmt-put_block-requires : goal.put_stmt-put_block-requires
put_stmt-put_block-requires t c =
    (omega (arith, c.decreases, ap stmt_size (block_of _ _ _ c.in-Block.is), ap (λ xs. stmts_size (stmts xs)) c.as_slice.ensures.value), tt)

pub put_stmt-put_if-requires : goal.put_stmt-put_if-requires
put_stmt-put_if-requires t c =
    (omega (arith, c.decreases, ap stmt_size (if_of _ _ _ _ c.in-If.is), ap (λ xs. arms_size (arms_seen xs)) c.as_slice-in-If.ensures.value), tt)

pub put_stmt-put_while-requires : goal.put_stmt-put_while-requires
put_stmt-put_while-requires t c = (
  omega (arith, c.decreases, ap stmt_size (while_of _ _ _ _ c.in-While.is), ap (λ xs. stmts_size (stmts xs)) c.as_slice-in-While.ensures.value),
  tt,
)

pub put_stmt-put_for-requires : goal.put_stmt-put_for-requires
put_stmt-put_for-requires t c =
    (omega (arith, c.decreases, ap stmt_size (for_of _ _ _ _ _ _ c.in-For.is), ap (λ xs. stmts_size (stmts xs)) c.as_slice-in-For.ensures.value), tt)

pub put_stmt-returns-in-Block : goal.put_stmt-returns-in-Block
put_stmt-returns-in-Block t c = record {
  value = on_ok c.put_block.result c.put_block.ensures.value (λ h. bare_along c.args.margin (stmt_of c.args.s.now)
      (BlockOf (stmts c.as_slice.result.now) c.in-Block.place) (block_of _ _ _ c.in-Block.is ∙ ap (λ xs. BlockOf (stmts xs) c.in-Block.place)
      (sym c.as_slice.ensures.value)) h);
}

pub put_stmt-returns-in-If : goal.put_stmt-returns-in-If
put_stmt-returns-in-If t c = record {
  value = on_ok c.put_if.result c.put_if.ensures.value (λ h. bare_along c.args.margin (stmt_of c.args.s.now)
      (IfOf (arms_seen c.as_slice-in-If.result.now) (else_seen c.in-If.other) c.in-If.place) (if_of _ _ _ _ c.in-If.is
      ∙ ap (λ xs. IfOf (arms_seen xs) (else_seen c.in-If.other) c.in-If.place) (sym c.as_slice-in-If.ensures.value)) h);
}

pub put_stmt-returns-in-While : goal.put_stmt-returns-in-While
put_stmt-returns-in-While t c = record {
  value = on_ok c.put_while.result c.put_while.ensures.value (λ h. bare_along c.args.margin (stmt_of c.args.s.now)
      (WhileOf (expr_of c.in-While.test) (stmts c.as_slice-in-While.result.now) c.in-While.place) (while_of _ _ _ _ c.in-While.is
      ∙ ap (λ xs. WhileOf (expr_of c.in-While.test) (stmts xs) c.in-While.place) (sym c.as_slice-in-While.ensures.value)) h);
}

pub put_stmt-returns-in-For : goal.put_stmt-returns-in-For
put_stmt-returns-in-For t c = record {
  value = on_ok c.put_for.result c.put_for.ensures.value (λ h. bare_along c.args.margin (stmt_of c.args.s.now)
      (ForOf (boxed_step c.in-For.first) (value_of c.in-For.test) (boxed_step c.in-For.step) (stmts c.as_slice-in-For.result.now) c.in-For.place)
      (for_of _ _ _ _ _ _ c.in-For.is ∙ ap (λ xs. ForOf (boxed_step c.in-For.first) (value_of c.in-For.test) (boxed_step c.in-For.step)
      (stmts xs) c.in-For.place) (sym c.as_slice-in-For.ensures.value)) h);
}

pub put_body-returns : goal.put_body-returns
put_body-returns t c = record {
  value = on_ok c.put_close_body.result c.put_close_body.ensures.value
      (both_put (both_put c.in_ok-put_open_body.ensures.value (deeper_as _ _ (stmts c.args.body.now) c.in_ok-deeper.ensures.value
      c.in_ok-put_stmts.ensures.value)));
}

pub put_whole_body-returns : goal.put_whole_body-returns
put_whole_body-returns t c = record { value = on_ok c.put_end.result c.put_end.ensures.value (both_put c.in_ok-put_body.ensures.value) }

pub put_block-returns : goal.put_block-returns
put_block-returns t c = record {
  value = on_ok c.put_end-2.result c.put_end-2.ensures.value
      (both_put (both_put c.in_ok-put_mark.ensures.value
      (both_put c.in_ok-put_end.ensures.value
      (both_put (deeper_as _ _ (stmts c.args.body.now) c.in_ok-deeper.ensures.value c.in_ok-put_stmts.ensures.value)
      c.in_ok-put_close_body.ensures.value))));
}

pub put_other-put_whole_body-requires : goal.put_other-put_whole_body-requires
put_other-put_whole_body-requires t c =
    (omega (arith, c.decreases, ap (λ o. else_size (else_seen o)) c.in-Some.is, ap (λ xs. stmts_size (stmts xs)) c.as_slice.ensures.value), tt)

pub put_other-returns-in_ok-put_key-in-Some : goal.put_other-returns-in_ok-put_key-in-Some
put_other-returns-in_ok-put_key-in-Some t c = record {
  value = on_ok c.put_whole_body.result c.put_whole_body.ensures.value (λ h. other_along c.args.margin c.args.other.now c.in-Some.body
      c.as_slice.result.now c.in-Some.is c.as_slice.ensures.value (both_put
      (both_put c.in_ok-put_space-in-Some.ensures.value c.in_ok-put_key-in-Some.ensures.value) h));
}
