use Rattle.std.proofs.Common.{sym, ◌∙◌}
use Rattle.java_compare.proofs.Sameness.{true_and, expr_by, call_seen, on_seen, super_seen, new_seen, exprs_apart}
use Rattle.java_compare.proofs.Parts.{then_and, else_and, expr_at}
use Rattle.java_compare.proofs.compare_bodies.+exprs.Goals.{equal_exprs-then-equal_names-3, equal_exprs-else-equal_names-3}
use Rattle.java_compare.proofs.compare_bodies.+exprs.Goals as goal

pub equal_exprs-returns-then-equal_names-2 : goal.equal_exprs-returns-then-equal_names-2
equal_exprs-returns-then-equal_names-2 t c =
    record {
      value = expr_by _ _ (call_seen c.in-Call.args c.in-Call.is c.in-None.is c.deref-then-equal_names-2.ensures.value)
          (call_seen c.in-Call-b.others c.in-Call-b.is c.in-None-root.is c.deref-then-equal_names-2-2.ensures.value)
          (true_and (sym c.equal_names-in-None-root.ensures.value ∙ c.if-equal_names-2.true) c.equal_args.ensures.value);
    }

pub equal_exprs-returns-then-equal_exprs-2 : goal.equal_exprs-returns-then-equal_exprs-2
equal_exprs-returns-then-equal_exprs-2 t c =
    record {
      value = expr_by _ _ (on_seen c.in-Call.args c.in-Call.is c.in-Some.is c.deref-then-equal_exprs-2-2.ensures.value)
          (on_seen c.in-Call-b.others c.in-Call-b.is c.in-Some-root.is c.deref-then-equal_exprs-2-3.ensures.value)
          (then_and c.if-equal_names-3.value
          (elim c.if-equal_names-3.branch [
            | equal_exprs-then-equal_names-3 w ↦ then_and c.equal_names-in-Some-root.result
                c.equal_names-in-Some-root.ensures.value w.if-equal_names-3.true (w.value-is
                ∙ expr_at w.deref-then-equal_names-3.ensures w.deref-then-equal_names-3-2.ensures w.equal_exprs-then-equal_names-3.ensures.value)
            | equal_exprs-else-equal_names-3 w ↦ else_and c.equal_names-in-Some-root.result _ c.equal_names-in-Some-root.ensures.value
                w.if-equal_names-3.false w.value-is
          ]) c.if-equal_exprs-2.true c.equal_args-then-equal_exprs-2.ensures.value);
    }

pub equal_exprs-returns-then-equal_names-4 : goal.equal_exprs-returns-then-equal_names-4
equal_exprs-returns-then-equal_names-4 t c =
    record {
      value = expr_by _ _ (super_seen c.in-SuperCall.args c.in-SuperCall.is c.deref-then-equal_names-4.ensures.value)
          (super_seen c.in-SuperCall-b.others c.in-SuperCall-b.is c.deref-then-equal_names-4-2.ensures.value)
          (true_and (sym c.equal_names-in-SuperCall-b.ensures.value ∙ c.if-equal_names-4.true) c.equal_args-then-equal_names-4.ensures.value);
    }

pub equal_exprs-returns-then-equal_ids : goal.equal_exprs-returns-then-equal_ids
equal_exprs-returns-then-equal_ids t c = record {
  value = expr_by _ _ (new_seen c.in-New.args c.in-New.is c.deref-then-equal_ids.ensures.value)
      (new_seen c.in-New-b.others c.in-New-b.is c.deref-then-equal_ids-2.ensures.value) (true_and (sym c.equal_ids.ensures.value ∙ c.if-equal_ids.true)
      c.equal_args-then-equal_ids.ensures.value);
}

pub equal_args-returns-then-a-b : goal.equal_args-returns-then-a-b
equal_args-returns-then-a-b t c = record { value = exprs_apart _ _ c.if-a-b.true }
