use Rattle.java_print.proofs.Adding.{both_put, on_ok}
use Rattle.java_print.proofs.stmts.put_condition.Goals as goal

pub returns : goal.returns
returns c = record {
  value = on_ok c.put_mark-2.result c.put_mark-2.ensures.value
      (both_put (both_put c.in_ok-put_space.ensures.value (both_put c.in_ok-put_mark.ensures.value c.in_ok-put_expr.ensures.value)));
}
