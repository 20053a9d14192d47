use Rattle.java_print.proofs.Adding.{both_put, on_ok}
use Rattle.java_print.proofs.stmts.put_tested.Goals as goal

pub returns : goal.returns
returns c = record { value = on_ok c.put_condition.result c.put_condition.ensures.value (both_put c.in_ok-put_key.ensures.value) }
