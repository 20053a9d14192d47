use Rattle.java_print.proofs.Adding.{both_put, on_ok}
use Rattle.java_print.proofs.decls.put_param.Goals as goal

pub returns : goal.returns
returns c = record {
  value = on_ok c.put_name.result c.put_name.ensures.value
      (both_put (both_put c.in_ok-put_final.ensures.value (both_put c.in_ok-put_type.ensures.value c.in_ok-put_space.ensures.value)));
}
