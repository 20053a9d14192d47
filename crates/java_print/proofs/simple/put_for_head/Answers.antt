use Rattle.java_print.proofs.Adding.{both_put, on_ok}
use Rattle.java_print.proofs.StmtAdding.{adds_for}
use Rattle.java_print.proofs.simple.put_for_head.Goals as goal

pub returns : goal.returns
returns c = record {
  value = on_ok c.put_mark-3.result c.put_mark-3.ensures.value
      (both_put (both_put (adds_for c.args.into.now.items c.put_text.new.into.items c.in_ok-put_text.ensures.value)
      (both_put c.in_ok-put_first.ensures.value (both_put c.in_ok-put_mark.ensures.value (both_put c.in_ok-put_spaced.ensures.value
      (both_put c.in_ok-put_mark-2.ensures.value c.in_ok-put_step.ensures.value))))));
}
