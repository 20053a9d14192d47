use Rattle.std.proofs.Common.{arith, false, length, sym, ap, ◌∙◌}
use Rattle.std.proofs.lemmas.List.{append-nil}
use Rattle.java_core.specs.Trees.{at_place, expr_of, stmt_of, stmts, step_seen, value_of}
use Rattle.java_core.specs.Programs.{program_of, code_seen}
use Rattle.java_core.proofs.Rows.{if_as, for_as}
use Rattle.flow_facts.specs.Views.{parts_seen}
use Rattle.flow_facts.proofs.Passed.{on_ok}
use Rattle.java_core.proofs.Forms.{block_form, while_form}
use Rattle.flow_facts.proofs.Composed.{loop_parts, while_parts, with_other}
use Rattle.flow_facts.proofs.bodies.+statements.Goals as goal

pub walk_stmt-returns-in-Block : goal.walk_stmt-returns-in-Block
walk_stmt-returns-in-Block t c = let form = block_form _ _ _ c.in-Block.is in rw form c.walk_stmts.ensures

pub walk_stmt-returns-in-Ok-walk : goal.walk_stmt-returns-in-Ok-walk
walk_stmt-returns-in-Ok-walk t c =
    let form = while_form _ _ _ _ c.in-While.is in
    rw form (on_ok c.walk_stmts-in-While.result (λ h. record {
      grown = omega (arith, c.in-Ok-walk.ensures.grown, h.grown);
      parts = while_parts (program_of c.args.within.now.program.now) c.args.within.now.number
          (code_seen c.args.within.now.code) (at_place c.in-While.place)
          (expr_of c.in-While.test) (stmts c.in-While.body.items) (parts_seen c.args.parts.now.items) _ _
          (length c.args.parts.now.items) _
          c.in-Ok-walk.ensures.parts c.in-Ok-walk.ensures.grown h.parts;
    }) c.walk_stmts-in-While.ensures)

pub walk_stmt-returns-in-Ok-walk_step-2 : goal.walk_stmt-returns-in-Ok-walk_step-2
walk_stmt-returns-in-Ok-walk_step-2 t c =
    let form = ap stmt_of c.in-For.is ∙ for_as c.in-For.first c.in-For.test c.in-For.step c.in-For.body c.in-For.place in
    let a = c.in-Ok-walk_step.ensures in
    let b = c.in-Ok-walk_value.ensures in
    let d = c.in-Ok-walk_step-2.ensures in
    rw form (on_ok c.walk_stmts-in-For.result (λ h. record {
      grown = omega (arith, a.grown, b.grown, d.grown, h.grown);
      parts = loop_parts (program_of c.args.within.now.program.now) c.args.within.now.number
          (code_seen c.args.within.now.code) (at_place c.in-For.place) false
          (step_seen c.in-For.first) (value_of c.in-For.test) (step_seen c.in-For.step) (stmts c.in-For.body.items)
          (parts_seen c.args.parts.now.items) _ _ _ _ (length c.args.parts.now.items) _ _ _
          a.parts a.grown b.parts b.grown d.parts d.grown h.parts;
    }) c.walk_stmts-in-For.ensures)

pub walk_stmt-returns-in-Some-other : goal.walk_stmt-returns-in-Some-other
walk_stmt-returns-in-Some-other t c =
    let form = ap stmt_of c.in-If.is ∙ if_as c.in-If.arms c.in-If.other c.in-If.place in
    let arms = with_other (program_of c.args.within.now.program.now) c.args.within.now.number (code_seen c.args.within.now.code)
    _ _ c.in-Some-other.is c.in-Ok-walk_arms.ensures.grown c.in-Ok-walk_arms.ensures.parts in
    rw form (on_ok c.walk_stmts-in-Some-other.result (λ h. record { grown = omega (arith, arms.0, h.grown); parts = h.parts ∙ arms.1 })
    c.walk_stmts-in-Some-other.ensures)

pub walk_stmt-returns-in-None-other : goal.walk_stmt-returns-in-None-other
walk_stmt-returns-in-None-other t c =
    let form = ap stmt_of c.in-If.is ∙ if_as c.in-If.arms c.in-If.other c.in-If.place in
    let arms = with_other (program_of c.args.within.now.program.now) c.args.within.now.number (code_seen c.args.within.now.code)
    _ _ c.in-None-other.is c.in-Ok-walk_arms.ensures.grown c.in-Ok-walk_arms.ensures.parts in
    rw form (record { grown = omega (arith, arms.0); parts = sym (append-nil (parts_seen c.walk_arms.new.parts.items)) ∙ arms.1 })
