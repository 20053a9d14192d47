use Rattle.java_print.proofs.Adding.{both_put, on_ok}
use Rattle.java_print.proofs.stmts.put_close_body.Goals as goal

pub returns : goal.returns
returns c = record { value = on_ok c.put_mark.result c.put_mark.ensures.value (both_put c.in_ok-put_margin.ensures.value) }
