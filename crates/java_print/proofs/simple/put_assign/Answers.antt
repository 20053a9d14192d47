use Rattle.java_print.proofs.Adding.{both_put, on_ok}
use Rattle.java_print.proofs.simple.put_assign.Goals as goal

pub returns : goal.returns
returns c = record { value = on_ok c.put_initial.result c.put_initial.ensures.value (both_put c.in_ok-put_expr.ensures.value) }
