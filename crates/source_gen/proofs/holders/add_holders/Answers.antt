use Rattle.std.proofs.Common.{ℕ, ◌∷◌, []}
use Rattle.java_core.specs.Programs.{PlainClass, class_seen}
use Rattle.flow_rules.specs.Ordered.{when}
use Rattle.flow_rules.specs.Facts.{is_holder}
use Rattle.write_model.specs.Written.{holder_tree}
use Rattle.write_forms.specs.Sources.{old_program, renaming}
use Rattle.source_gen.proofs.Loops.{each_seen_more}
use Rattle.source_gen.proofs.holders.add_holders.Goals as goal

pub loop-c-preserved : goal.loop-c-preserved
loop-c-preserved c =
    let s = c.args.source.now in
    each_seen_more class_seen
    (λ (i : ℕ) (k : PlainClass). when (is_holder (old_program s) i) (holder_tree (old_program s) (renaming s) s.hier.now i k ∷ []))
    s.program.now.classes.items _ c.loop-c.c c.class-item.result _ _ _ c.deref-class-items.ensures.value c.loop-c-test.true c.class-item.is
    c.in_ok-add_holder.ensures c.loop-c.invariant
