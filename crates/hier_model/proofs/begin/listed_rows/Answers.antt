use Rattle.std.proofs.Common.{◌≡◌, length, None, ap, ◌∙◌, arith}
use Rattle.kaba_bits.specs.Sets.{first_below, when}
use Rattle.hier_model.specs.Hierarchies.{node}
use Rattle.hier_model.specs.Listed.{lists_row, listed_row}
use Rattle.hier_model.proofs.Pushed.{each_given}
use Rattle.hier_model.proofs.begin.listed_rows.Goals as goal

pub returns : goal.returns
returns c =
    let cs = c.args.concepts.now in
    let last : c.loop-k.k ≡ length cs = omega (arith, c.loop-k-test.false, c.loop-k.auto.k-end) in
    each_given (listed_row cs) c.args.count None c.loop-k.places.items c.loop-k.invariant.len
    (λ i lt. c.loop-k.invariant.each i lt ∙ ap (λ n. first_below n (λ k. when (lists_row cs k i) (node k))) last)
