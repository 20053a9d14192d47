use Rattle.java_print.proofs.Adding.{both_put, on_ok}
use Rattle.java_print.proofs.decls.put_class_supers.Goals as goal

pub returns : goal.returns
returns c = record { value = on_ok c.put_list.result c.put_list.ensures.value (both_put c.in_ok-put_parent.ensures.value) }
