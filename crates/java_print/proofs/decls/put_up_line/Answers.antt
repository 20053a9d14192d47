use Rattle.java_print.proofs.Adding.{both_put, on_ok}
use Rattle.java_print.proofs.decls.put_up_line.Goals as goal

pub returns : goal.returns
returns c = record {
  value = on_ok c.put_stop.result c.put_stop.ensures.value
      (both_put (both_put c.in_ok-put_margin.ensures.value (both_put c.in_ok-put_key.ensures.value
      (both_put c.in_ok-put_mark.ensures.value c.in_ok-put_args.ensures.value))));
}
