use Rattle.std.proofs.Common.{slice_get, refl, subst, arith}
use Rattle.std.proofs.lemmas.List.{with_items_is}
use Rattle.name_types.specs.Marks.{HaveTestedAt}
use Rattle.name_types.proofs.MarkLemmas.{suspects-more, suspects-all}
use Rattle.name_types.proofs.marks.suspects_of.Goals as goal

pub loop-k-preserved : goal.loop-k-preserved
loop-k-preserved c =
    let rows = c.args.rows.now in
    let all = c.args.all.now.items in
    let spots = c.args.spots.now in
    let k = c.loop-k.k in
    let new = c.test_at.new.suspects in
    rw (with_items_is c.loop-k.suspects new (omega arith))
    (suspects-more rows all spots c.requires k c.loop-k.suspects.items new c.loop-k.invariant (slice_get all k) refl
    (subst (λ old. HaveTestedAt rows all spots (slice_get all k) k old new) c.as_mut_slice.ensures.value c.in_ok-test_at.ensures))

pub returns : goal.returns
returns c = suspects-all c.args.rows.now c.args.all.now.items c.args.spots.now c.requires c.loop-k.k c.loop-k.suspects.items (omega arith) c.loop-k.invariant
