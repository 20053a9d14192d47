use Rattle.java_print.specs.Layout.{word_then, ids_items}
use Rattle.std.proofs.Common.{refl}
use Rattle.java_print.proofs.DeclAdding.{comma_step, comma_end}
use Rattle.java_print.proofs.decls.put_ids.Goals as goal

pub loop-i-preserved : goal.loop-i-preserved
loop-i-preserved c = comma_step ids_items (λ i r. word_then i.name r) (λ b x xs r. refl) _ c.loop-i-test.true c.index-ids-i.is c.loop-i.invariant
    c.in_ok-put_comma.ensures.value c.in_ok-put_name.ensures.value

pub returns : goal.returns
returns c = record { value = comma_end ids_items _ c.loop-i-test.false c.loop-i.invariant }
