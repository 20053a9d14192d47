use Rattle.java_print.proofs.Adding.{both_put, on_ok}
use Rattle.java_print.proofs.exprs.put_key_space.Goals as goal

pub returns : goal.returns
returns c = record { value = on_ok c.put_space.result c.put_space.ensures.value (both_put c.in_ok-put_key.ensures.value) }
