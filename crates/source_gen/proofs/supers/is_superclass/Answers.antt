use Rattle.std.proofs.Common.{◌&&◌, sym, ap, ◌∙◌}
use Rattle.kaba_bits.specs.Sets.{row}
use Rattle.kaba_order.specs.Orders.{Ordered}
use Rattle.source_gen.proofs.Uppers.{lowest_test}
use Rattle.source_gen.proofs.supers.is_superclass.Goals as goal

pub returns-then-has : goal.returns-then-has
returns-then-has c =
    let t = c.is_subset.result in
    sym (ap (λ x. x && t) (sym c.has.ensures ∙ c.if-has.true))
    ∙ lowest_test c.args.nodes.now.facts.now c.args.nodes.now.source.hier.now c.args.n.0 c.args.above.now c.requires.above c.args.a c.above.result.now t
    (c.above.ensures ∙ ap (λ (o : Ordered). row o.le c.args.a) c.order.ensures) c.is_subset.ensures
