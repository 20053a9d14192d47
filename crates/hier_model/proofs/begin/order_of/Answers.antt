use Rattle.std.proofs.Common.{◌≡◌, sym, subst}
use Rattle.std.specs.Prelude.{IfOk}
use Rattle.kaba_order.specs.Orders.{Ordered, IsPartialOrder}
use Rattle.hier_model.proofs.BeginLemmas.{order_from}
use Rattle.hier_model.proofs.begin.order_of.Goals as goal

pub from_rows-requires : goal.from_rows-requires
from_rows-requires c =
    let live = c.in_ok-live in
    let le = c.in_ok-le in
    subst IsPartialOrder (sym (order_from c.args.concepts.now live.live le.le.items live.ensures.width live.ensures.nodes le.ensures.len
    le.ensures.widths le.ensures.rows)) c.requires.order

pub returns : goal.returns
returns c =
    let live = c.in_ok-live in
    let le = c.in_ok-le in
    subst (λ (o : Ordered). IfOk c.from_rows.result (λ x. x ≡ o))
    (order_from c.args.concepts.now live.live le.le.items live.ensures.width live.ensures.nodes le.ensures.len le.ensures.widths le.ensures.rows)
    c.from_rows.ensures
