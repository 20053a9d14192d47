use Rattle.std.proofs.Common.{subst}
use Rattle.kaba_order.specs.Orders.{Ordered}
use Rattle.kaba_order.specs.Formers.{AreBelow}
use Rattle.hier_rules.proofs.after.first_after.Goals as goal

pub first_broken_joined-requires-clause-low : goal.first_broken_joined-requires-clause-low
first_broken_joined-requires-clause-low c =
    subst (λ nodes. AreBelow c.args.asked.now.hier.now.order nodes c.in_ok-low.low) c.requires.joined
    (subst (λ (o : Ordered). AreBelow o c.args.joined.now c.in_ok-low.low) c.order.ensures c.in_ok-low.ensures)
