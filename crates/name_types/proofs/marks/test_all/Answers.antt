use Rattle.std.proofs.Common.{refl, arith}
use Rattle.std.specs.Prelude.{slice_get}
use Rattle.name_types.proofs.MarkLemmas.{testing-more, testing-all}
use Rattle.name_types.proofs.marks.test_all.Goals as goal

pub loop-place-preserved : goal.loop-place-preserved
loop-place-preserved c = testing-more c.args.rows.now c.args.all.now.items c.args.list.now c.loop-place.marks c.args.suspects.now c.loop-place.suspects
    c.loop-place.place c.loop-place.invariant c.test_next.new.marks c.test_next.new.suspects (slice_get c.args.list.now c.loop-place.place) refl
    c.test_next.ensures

pub returns : goal.returns
returns c = testing-all c.args.rows.now c.args.all.now.items c.args.list.now c.loop-place.marks c.args.suspects.now c.loop-place.suspects
    c.loop-place.place c.loop-place.invariant (omega arith)
