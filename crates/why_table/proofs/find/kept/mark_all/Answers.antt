use Rattle.std.proofs.Common.{get_or, refl, arith}
use Rattle.why_table.proofs.FindLemmas.{adds_more}
use Rattle.why_table.proofs.find.kept.mark_all.Goals as goal

pub loop-x-preserved : goal.loop-x-preserved
loop-x-preserved c =
    let xs = c.args.from.now in
    let i = c.loop-x.x-index in
    adds_more xs i (get_or xs i 0) c.args.marks.now c.loop-x.marks c.set.new.self c.loop-x-test.true refl c.loop-x.invariant
    (omega (arith, c.requires i 0 c.loop-x-test.true, c.loop-x.invariant.width)) c.set.ensures.after
