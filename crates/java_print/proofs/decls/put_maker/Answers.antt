use Rattle.java_print.proofs.Adding.{both_put, on_ok}
use Rattle.java_print.proofs.decls.put_maker.Goals as goal

pub returns : goal.returns
returns c = record {
  value = on_ok c.put_maker_body.result c.put_maker_body.ensures.value
      (both_put (both_put c.in_ok-put_margin.ensures.value c.in_ok-put_maker_head.ensures.value));
}
