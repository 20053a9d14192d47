use Rattle.java_print.proofs.Adding.{both_put, on_ok}
use Rattle.java_print.proofs.simple.put_initial.Goals as goal

pub returns : goal.returns
returns c = record {
  value = on_ok c.put_expr.result c.put_expr.ensures.value
      (both_put (both_put c.in_ok-put_space.ensures.value (both_put c.in_ok-put_mark.ensures.value c.in_ok-put_space-2.ensures.value)));
}
