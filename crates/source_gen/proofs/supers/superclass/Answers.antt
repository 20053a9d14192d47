use Rattle.std.proofs.Common.{◌<◌, length, sym, ap, ◌∙◌, arith}
use Rattle.kaba_bits.specs.Sets.{when}
use Rattle.kaba_bits.proofs.FirstLemmas.{first_below_found}
use Rattle.kaba_order.specs.Orders.{Ordered}
use Rattle.write_model.specs.Supers.{is_superclass}
use Rattle.source_gen.proofs.supers.superclass.Goals as goal

pub returns-then-is_superclass-clause-value : goal.returns-then-is_superclass-clause-value
returns-then-is_superclass-clause-value c =
    let F = c.args.nodes.now.facts.now in
    let H = c.args.nodes.now.source.hier.now in
    let a = c.loop-a.a in
    let below : a < length H.order.live = omega (arith, ap (λ (o : Ordered). length o.live) c.order.ensures) in
    sym (first_below_found (λ k. when (is_superclass F H c.args.n.0 k) k) a (length H.order.live) a below c.loop-a.invariant
    (ap (λ b. when b a) (sym c.is_superclass.ensures ∙ c.if-is_superclass.true)))
