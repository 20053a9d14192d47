use Rattle.std.proofs.Common.{length, arith}
use Rattle.kaba_bits.specs.Sets.{first_below}
use Rattle.hier_rules.specs.Obligations.{two_bodies}
use Rattle.hier_rules.proofs.FoundLemmas.{found_in}
use Rattle.hier_rules.proofs.bodies.first_two_bodies_among.Goals as goal

pub returns-in-Some : goal.returns-in-Some
returns-in-Some c =
    let F = c.args.asked.now.facts.now in
    let H = c.args.asked.now.hier.now in
    found_in (length F.columns.items) c.loop-n.n (length H.order.live) (λ n k. first_below (length F.columns.items) (two_bodies F H n k))
    c.loop-n.invariant c.in-Some.ensures (omega arith)
