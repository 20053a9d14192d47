use Rattle.std.proofs.Common.{refl, ◌∙◌}
use Rattle.java_compare.proofs.Sameness.{stmt_by, block_seen, while_seen, for_seen}
use Rattle.java_compare.proofs.Parts.{then_and, else_and, and_true, if_seen, if_else_seen}
use Rattle.java_compare.proofs.compare_bodies.+stmts.Goals.{equal_stmts-then-equal_steps, equal_stmts-else-equal_steps, equal_stmts-then-equal_values, equal_stmts-else-equal_values}
use Rattle.java_compare.proofs.compare_bodies.+stmts.Goals as goal

pub equal_stmts-returns-in-Block-b : goal.equal_stmts-returns-in-Block-b
equal_stmts-returns-in-Block-b t c =
    record {
      value = stmt_by _ _ (block_seen c.in-Block.items c.in-Block.is c.deref.ensures.value)
          (block_seen c.in-Block-b.others c.in-Block-b.is c.deref-in-Block-b.ensures.value) c.equal_bodies.ensures.value;
    }

pub equal_stmts-returns-then-equal_exprs-2 : goal.equal_stmts-returns-then-equal_exprs-2
equal_stmts-returns-then-equal_exprs-2 t c = record {
  value = stmt_by _ _ (while_seen c.in-While.body c.in-While.is c.deref-then-equal_exprs-2.ensures.value)
      (while_seen c.in-While-b.others c.in-While-b.is c.deref-then-equal_exprs-2-2.ensures.value)
      (then_and c.equal_exprs-in-While-b.result c.equal_exprs-in-While-b.ensures.value c.if-equal_exprs-2.true c.equal_bodies-then-equal_exprs-2.ensures.value);
}

pub equal_stmts-returns-then-equal_steps-2 : goal.equal_stmts-returns-then-equal_steps-2
equal_stmts-returns-then-equal_steps-2 t c = record {
  value = stmt_by _ _ (for_seen c.in-For.first c.in-For.test c.in-For.step c.in-For.body c.in-For.is c.deref-then-equal_steps-2.ensures.value)
      (for_seen c.in-For-b.start c.in-For-b.other c.in-For-b.next c.in-For-b.others c.in-For-b.is c.deref-then-equal_steps-2-2.ensures.value)
      (then_and c.if-equal_values.value
      (elim c.if-equal_values.branch [
        | equal_stmts-then-equal_values w ↦ then_and c.if-equal_steps.value
            (elim c.if-equal_steps.branch [
              | equal_stmts-then-equal_steps v ↦ then_and c.equal_steps.result c.equal_steps.ensures.value v.if-equal_steps.true (v.value-is
                  ∙ v.equal_values-then-equal_steps.ensures.value)
              | equal_stmts-else-equal_steps v ↦ else_and c.equal_steps.result _ c.equal_steps.ensures.value v.if-equal_steps.false v.value-is
            ])
            w.if-equal_values.true (w.value-is ∙ w.equal_steps-then-equal_values.ensures.value)
        | equal_stmts-else-equal_values w ↦ else_and c.if-equal_steps.value _
            (elim c.if-equal_steps.branch [
              | equal_stmts-then-equal_steps v ↦ then_and c.equal_steps.result c.equal_steps.ensures.value v.if-equal_steps.true (v.value-is
                  ∙ v.equal_values-then-equal_steps.ensures.value)
              | equal_stmts-else-equal_steps v ↦ else_and c.equal_steps.result _ c.equal_steps.ensures.value v.if-equal_steps.false v.value-is
            ])
            w.if-equal_values.false w.value-is
      ])
      c.if-equal_steps-2.true c.equal_bodies-then-equal_steps-2.ensures.value);
}

pub equal_stmts-returns-in-None-last : goal.equal_stmts-returns-in-None-last
equal_stmts-returns-in-None-last t c = record {
  value = stmt_by _ _ (if_seen c.in-If.arms c.in-If.is c.in-None.is c.deref-in-None-last.ensures.value)
      (if_seen c.in-If-b.others c.in-If-b.is c.in-None-last.is c.deref-in-None-last-2.ensures.value) (c.equal_arms.ensures.value ∙ and_true _);
}

pub equal_stmts-returns-then-equal_arms : goal.equal_stmts-returns-then-equal_arms
equal_stmts-returns-then-equal_arms t c = record {
  value = stmt_by _ _ (if_else_seen c.in-If.arms c.in-Some.body c.in-If.is c.in-Some.is c.deref-in-Some-last.ensures.value
      c.deref-then-equal_arms.ensures.value) (if_else_seen c.in-If-b.others c.in-Some-last.rest c.in-If-b.is c.in-Some-last.is
      c.deref-in-Some-last-2.ensures.value c.deref-then-equal_arms-2.ensures.value)
      (then_and c.equal_arms-in-Some-last.result c.equal_arms-in-Some-last.ensures.value c.if-equal_arms.true c.equal_bodies-then-equal_arms.ensures.value);
}

pub equal_stmts-returns-else-equal_arms : goal.equal_stmts-returns-else-equal_arms
equal_stmts-returns-else-equal_arms t c = record {
  value = stmt_by _ _ (if_else_seen c.in-If.arms c.in-Some.body c.in-If.is c.in-Some.is c.deref-in-Some-last.ensures.value refl)
      (if_else_seen c.in-If-b.others c.in-Some-last.rest c.in-If-b.is c.in-Some-last.is c.deref-in-Some-last-2.ensures.value refl)
      (else_and c.equal_arms-in-Some-last.result _ c.equal_arms-in-Some-last.ensures.value c.if-equal_arms.false refl);
}
