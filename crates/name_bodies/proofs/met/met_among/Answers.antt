use Rattle.std.proofs.Common.{◌≡◌, ◌*◌, ◌/◌, ◌∙◌, arith}
use Rattle.name_bodies.proofs.MetLemmas.{passed}
use Rattle.name_bodies.proofs.met.met_among.Goals as goal

pub places-preserved-then-is_passed_over : goal.places-preserved-then-is_passed_over
places-preserved-then-is_passed_over c =
    let place = c.places.place in
    let at : place / 64 * 64 ≡ place = omega (arith, c.if-place-eq0.true) in
    passed c.args.rows.now c.args.headings.now.items c.args.list.now c.args.blocks.now c.requires (place / 64) c.args.class place at
    (c.is_passed_over.ensures c.if-is_passed_over.true)
    ∙ c.places.invariant
