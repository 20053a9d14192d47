use Rattle.java_print.proofs.Adding.{both_put, on_ok}
use Rattle.java_print.proofs.StmtAdding.{adds_system}
use Rattle.java_print.proofs.simple.put_bracketed.Goals as goal

pub returns : goal.returns
returns c = record {
  value = on_ok c.put_args.result c.put_args.ensures.value
      (both_put (both_put (adds_system c.args.into.now.items c.put_text.new.into.items c.in_ok-put_text.ensures.value)
      (both_put c.in_ok-put_name.ensures.value c.in_ok-put_mark.ensures.value)));
}
