use Rattle.java_print.proofs.Adding.{both_put, on_ok}
use Rattle.java_print.proofs.decls.put_maker_head.Goals as goal

pub returns : goal.returns
returns c = record {
  value = on_ok c.put_params.result c.put_params.ensures.value
      (both_put (both_put c.in_ok-put_mods.ensures.value (both_put c.in_ok-put_name.ensures.value c.in_ok-put_mark.ensures.value)));
}
