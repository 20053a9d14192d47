use Rattle.std.proofs.Common.{sym, ◌∙◌, arith}
use Rattle.kaba_bits.proofs.SetLemmas.{bit-below}
use Rattle.hier_model.proofs.Hier.add_member_place.Goals as goal

pub set-requires : goal.set-requires
set-requires c =
    let p = c.in-Some.place in
    let live = c.requires.hierarchy.placed.columns c.args.c.0 p (sym c.place_of_column.ensures ∙ c.in-Some.is) in
    omega (arith, bit-below c.args.self.now.order.live p.0 live, c.requires.width)
