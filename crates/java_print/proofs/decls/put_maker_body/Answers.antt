use Rattle.java_print.proofs.Adding.{both_put, on_ok}
use Rattle.java_print.proofs.decls.put_maker_body.Goals as goal

pub returns : goal.returns
returns c = record {
  value = on_ok c.put_end.result c.put_end.ensures.value
      (both_put (both_put c.in_ok-put_open_body.ensures.value (both_put c.in_ok-put_up.ensures.value
      (both_put c.in_ok-put_stmts.ensures.value c.in_ok-put_close_body.ensures.value))));
}
