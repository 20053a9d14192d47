use Rattle.java_print.specs.Layout.{mods_items}
use Rattle.std.proofs.Common.{refl}
use Rattle.java_print.specs.Layout.{mod_items}
use Rattle.java_print.proofs.DeclAdding.{each_at, each_end}
use Rattle.java_print.proofs.decls.put_mods.Goals as goal

pub loop-m-preserved : goal.loop-m-preserved
loop-m-preserved c = each_at mods_items mod_items (λ x xs r. refl) _ _ c.loop-m-test.true c.loop-m.invariant c.in_ok-put_key_space.ensures.value

pub returns : goal.returns
returns c = record { value = each_end mods_items _ c.loop-m-test.false c.loop-m.invariant }
