use Rattle.std.proofs.Common.{arith, ap, refl}
use Rattle.java_tree.specs.Syntax.{stmts}
use Rattle.java_tree.specs.Size.{stmts_size}
use Rattle.java_tree.proofs.Sizes.{test_positive}
use Rattle.java_compare.proofs.Sizes.{block_size, if_size, else_size_of, while_size, for_size}
use Rattle.java_compare.proofs.measure.+stmts.Goals as goal

pub stmt_parts-stmts_count-requires : goal.stmt_parts-stmts_count-requires
stmt_parts-stmts_count-requires t c = let s = block_size c.in-Block.items c.in-Block.is c.deref.ensures.value in (omega (arith, s), omega (arith, s))

pub stmt_parts-returns-in-Block : goal.stmt_parts-returns-in-Block
stmt_parts-returns-in-Block t c = record { value = omega (arith, c.stmts_count.ensures.value, block_size c.in-Block.items c.in-Block.is c.deref.ensures.value) }

pub stmt_parts-arms_count-requires : goal.stmt_parts-arms_count-requires
stmt_parts-arms_count-requires t c = let s = if_size c.in-If.arms c.in-If.is c.in-None.is c.deref-in-None.ensures.value in (omega (arith, s), omega (arith, s))

pub stmt_parts-returns-in-None : goal.stmt_parts-returns-in-None
stmt_parts-returns-in-None t c =
    record { value = omega (arith, c.arms_count.ensures.value, if_size c.in-If.arms c.in-If.is c.in-None.is c.deref-in-None.ensures.value) }

pub stmt_parts-arms_count-requires-in-Some : goal.stmt_parts-arms_count-requires-in-Some
stmt_parts-arms_count-requires-in-Some t c =
    let s = else_size_of c.in-If.arms c.in-Some.other c.in-If.is c.in-Some.is c.deref-in-Some.ensures.value refl in (omega (arith, s), omega (arith, s))

pub stmt_parts-overflow_add-result-in-Some : goal.stmt_parts-overflow_add-result-in-Some
stmt_parts-overflow_add-result-in-Some t c =
    let s = else_size_of c.in-If.arms c.in-Some.other c.in-If.is c.in-Some.is c.deref-in-Some.ensures.value c.deref-in-Some-2.ensures.value in
    omega (arith, c.arms_count-in-Some.ensures.value, c.stmts_count-in-Some.ensures.value, s)

pub stmt_parts-returns-in-Some : goal.stmt_parts-returns-in-Some
stmt_parts-returns-in-Some t c =
    let s = else_size_of c.in-If.arms c.in-Some.other c.in-If.is c.in-Some.is c.deref-in-Some.ensures.value c.deref-in-Some-2.ensures.value in
    record { value = omega (arith, c.arms_count-in-Some.ensures.value, c.stmts_count-in-Some.ensures.value, s) }

pub stmt_parts-stmts_count-requires-in-While : goal.stmt_parts-stmts_count-requires-in-While
stmt_parts-stmts_count-requires-in-While t c =
    let s = while_size c.in-While.body c.in-While.is c.deref-in-While.ensures.value in
    (omega (arith, s), omega (arith, s))

pub stmt_parts-overflow_add-result-in-While : goal.stmt_parts-overflow_add-result-in-While
stmt_parts-overflow_add-result-in-While t c =
    let s = while_size c.in-While.body c.in-While.is c.deref-in-While.ensures.value in
    omega (arith, c.expr_count-in-While.ensures.value, c.stmts_count-in-While.ensures.value, s)

pub stmt_parts-returns-in-While : goal.stmt_parts-returns-in-While
stmt_parts-returns-in-While t c =
    let s = while_size c.in-While.body c.in-While.is c.deref-in-While.ensures.value in
    record { value = omega (arith, c.expr_count-in-While.ensures.value, c.stmts_count-in-While.ensures.value, s) }

pub stmt_parts-stmts_count-requires-in-For : goal.stmt_parts-stmts_count-requires-in-For
stmt_parts-stmts_count-requires-in-For t c =
    let s = for_size c.in-For.first c.in-For.test c.in-For.step c.in-For.body c.in-For.is c.deref-in-For.ensures.value in
    (omega (arith, s), omega (arith, s))

pub stmt_parts-overflow_add-result-in-For-3 : goal.stmt_parts-overflow_add-result-in-For-3
stmt_parts-overflow_add-result-in-For-3 t c =
    let s = for_size c.in-For.first c.in-For.test c.in-For.step c.in-For.body c.in-For.is c.deref-in-For.ensures.value in
    omega (arith, c.step_count.ensures.value, c.value_count-in-For.ensures.value, c.step_count-in-For.ensures.value, c.stmts_count-in-For.ensures.value, s)

pub stmt_parts-returns-in-For : goal.stmt_parts-returns-in-For
stmt_parts-returns-in-For t c =
    let s = for_size c.in-For.first c.in-For.test c.in-For.step c.in-For.body c.in-For.is c.deref-in-For.ensures.value in
    record {
      value = omega
          (arith, c.step_count.ensures.value, c.value_count-in-For.ensures.value, c.step_count-in-For.ensures.value, c.stmts_count-in-For.ensures.value, s);
    }

pub arm_count-stmts_count-requires : goal.arm_count-stmts_count-requires
arm_count-stmts_count-requires t c = let p = test_positive c.args.arm.now.test in let q = ap (λ xs. stmts_size (stmts xs)) c.deref.ensures.value in
    (omega (arith, p, q), omega (arith, p, q))
