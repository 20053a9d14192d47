use Rattle.std.proofs.Common.{List}
use Rattle.java_print.specs.Items.{Item}
use Rattle.java_print.specs.Layout.{stop_then, head_items, heads_items}
use Rattle.java_print.specs.Adds.{margin_then}
use Rattle.java_print.proofs.Adding.{adds_then}
use Rattle.std.proofs.Common.{refl}
use Rattle.java_tree.specs.Syntax.{head_of, heads}
use Rattle.java_tree.specs.declared.Head.{Head}
use Rattle.java_print.proofs.DeclAdding.{each_step, each_end}
use Rattle.java_print.proofs.decls.put_heads.Goals as goal

pub loop-head-preserved : goal.loop-head-preserved
loop-head-preserved c = each_step (λ (hs : List Head). heads_items (heads hs)) (λ (h : Head) (r : List Item). margin_then 2
    (head_items (head_of h) (stop_then r))) (λ x xs r. refl) _ c.loop-head-test.true c.head-item.is c.loop-head.invariant
    (λ r. adds_then (c.in_ok-put_margin.ensures.value _) (adds_then (c.in_ok-put_head.ensures.value _) (c.in_ok-put_stop.ensures.value r)))

pub returns : goal.returns
returns c = record { value = each_end (λ (hs : List Head). heads_items (heads hs)) _ c.loop-head-test.false c.loop-head.invariant }
