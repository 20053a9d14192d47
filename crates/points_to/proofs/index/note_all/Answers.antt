use Rattle.std.proofs.Common.{◌∙◌, ◌<◌, length, sym, arith}
use Rattle.points_to.specs.Listed.{IsElementAt}
use Rattle.points_to.proofs.IndexLemmas.{at_all, items_more}
use Rattle.points_to.proofs.index.note_all.Goals as goal

pub loop-k-preserved : goal.loop-k-preserved
loop-k-preserved g c =
    let to = g.T.Belongs.belongs_to in
    let xs = c.args.items.now.items in
    let k = c.loop-k.k in
    let x = c.index.result.now in
    let is : IsElementAt xs k x = (omega arith, sym c.index.ensures) in
    let step = c.in_ok-note.ensures in
    let kept = c.loop-k.invariant.kept in
    let below = at_all (λ x. to x < length c.args.lists.now) xs k x c.requires.within is in
    record {
      kept = record { len = step.kept.len ∙ kept.len; each = λ j y h. step.kept.each j y (kept.each j y h) };
      here = items_more to xs c.loop-k.lists c.note.new.lists k x step.kept is (rw c.place.ensures at step.here (omega (arith, below, kept.len)))
          c.loop-k.invariant.here;
    }
