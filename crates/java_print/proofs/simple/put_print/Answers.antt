use Rattle.std.proofs.Common.{◌++◌, ◌∙◌, ap}
use Rattle.java_print.proofs.Adding.{both_put, on_ok}
use Rattle.java_print.proofs.StmtAdding.{adds_print}
use Rattle.java_print.proofs.simple.put_print.Goals as goal

pub returns : goal.returns
returns c = record {
  value = on_ok c.put_mark.result c.put_mark.ensures.value
      (both_put (both_put (adds_print c.args.into.now.items c.put_text.new.into.items c.args.newline (c.in_ok-put_text.ensures.value
      ∙ ap (λ xs. c.args.into.now.items ++ xs) c.print_head.ensures.value)) c.in_ok-put_value.ensures.value));
}
