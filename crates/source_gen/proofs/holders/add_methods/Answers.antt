use Rattle.java_core.specs.Programs.{method_seen}
use Rattle.write_model.specs.Members.{static_method_member}
use Rattle.write_forms.specs.Sources.{old_program, renaming}
use Rattle.source_gen.proofs.Loops.{each_seen_more}
use Rattle.source_gen.proofs.holders.add_methods.Goals as goal

pub loop-m-preserved : goal.loop-m-preserved
loop-m-preserved c =
    let s = c.args.old.now.source.now in
    each_seen_more method_seen (static_method_member (old_program s) (renaming s) s.hier.now c.args.old.now.class) s.program.now.methods.items _
    c.loop-m.m c.method-item.result _ _ _ c.deref-method-items.ensures.value c.loop-m-test.true c.method-item.is c.in_ok-add_method.ensures
    c.loop-m.invariant
