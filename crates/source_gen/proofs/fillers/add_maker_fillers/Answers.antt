use Rattle.std.proofs.Common.{ℕ}
use Rattle.java_core.specs.Programs.{PlainClass, class_seen}
use Rattle.source_gen.specs.Fills.{maker_fill}
use Rattle.source_gen.proofs.Loops.{each_seen_more}
use Rattle.source_gen.proofs.fillers.add_maker_fillers.Goals as goal

pub loop-c-preserved : goal.loop-c-preserved
loop-c-preserved c =
    each_seen_more class_seen (λ (i : ℕ) (k : PlainClass). maker_fill c.args.nodes.now c.args.n.0 i) c.args.nodes.now.source.program.now.classes.items _
    c.loop-c.c c._class-item.result _ _ _ c.deref-class-items.ensures.value c.loop-c-test.true c._class-item.is c.in_ok-add_maker_filler.ensures
    c.loop-c.invariant
