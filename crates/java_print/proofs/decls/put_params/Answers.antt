use Rattle.std.proofs.Common.{refl}
use Rattle.java_print.specs.Layout.{param_items, params_items}
use Rattle.java_print.proofs.Adding.{adds_then, on_ok}
use Rattle.java_print.proofs.DeclAdding.{comma_step, comma_end}
use Rattle.java_print.proofs.decls.put_params.Goals as goal

pub loop-i-preserved : goal.loop-i-preserved
loop-i-preserved c = comma_step params_items param_items (λ b x xs r. refl) _ c.loop-i-test.true c.index-params-i.is c.loop-i.invariant
    c.in_ok-put_comma.ensures.value c.in_ok-put_param.ensures.value

pub returns : goal.returns
returns c = record {
  value = on_ok c.put_mark.result c.put_mark.ensures.value (λ h r. adds_then (comma_end params_items _ c.loop-i-test.false c.loop-i.invariant r) (h r));
}
