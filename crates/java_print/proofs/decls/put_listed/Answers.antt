use Rattle.java_print.proofs.Adding.{both_put, on_ok}
use Rattle.java_print.proofs.decls.put_listed.Goals as goal

pub returns : goal.returns
returns c = record {
  value = on_ok c.put_ids.result c.put_ids.ensures.value (both_put (both_put c.in_ok-put_space.ensures.value c.in_ok-put_key_space.ensures.value));
}
