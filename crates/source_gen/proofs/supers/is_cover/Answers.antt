use Rattle.std.proofs.Common.{◌↔◌, IsTrue, subst}
use Rattle.kaba_order.specs.Orders.{Ordered, IsCover}
use Rattle.hier_model.proofs.CoverLemmas.{cover_test}
use Rattle.source_gen.proofs.supers.is_cover.Goals as goal

pub returns : goal.returns
returns c =
    let t = c.is_cover.result in
    cover_test c.args.nodes.now.source.hier.now.order c.args.n.0 c.args.a c.requires.nodes.hierarchy.sized.order t
    (subst (λ (o : Ordered). IsTrue t ↔ IsCover o c.args.n.0 c.args.a) c.order.ensures c.is_cover.ensures)
