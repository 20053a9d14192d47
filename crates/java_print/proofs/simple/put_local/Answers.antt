use Rattle.java_print.proofs.Adding.{both_put, on_ok}
use Rattle.java_print.proofs.simple.put_local.Goals as goal

pub returns : goal.returns
returns c = record {
  value = on_ok c.put_init.result c.put_init.ensures.value
      (both_put (both_put c.in_ok-put_final.ensures.value (both_put c.in_ok-put_type.ensures.value
      (both_put c.in_ok-put_space.ensures.value c.in_ok-put_name.ensures.value))));
}
