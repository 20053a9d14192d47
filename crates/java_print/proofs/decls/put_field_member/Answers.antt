use Rattle.java_print.proofs.Adding.{both_put, on_ok}
use Rattle.java_print.proofs.decls.put_field_member.Goals as goal

pub returns : goal.returns
returns c = record {
  value = on_ok c.put_stop.result c.put_stop.ensures.value
      (both_put (both_put c.in_ok-put_margin.ensures.value (both_put c.in_ok-put_mods.ensures.value (both_put c.in_ok-put_type.ensures.value
      (both_put c.in_ok-put_space.ensures.value c.in_ok-put_name.ensures.value)))));
}
