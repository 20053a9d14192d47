use Rattle.std.proofs.Common.{length, arith}
use Rattle.hier_rules.specs.Obligations.{unchained}
use Rattle.kaba_bits.specs.Sets.{first_below}
use Rattle.hier_rules.proofs.FoundLemmas.{found_in}
use Rattle.hier_rules.proofs.chains.first_unchained_among.Goals as goal

pub returns-in-Some-clause-first : goal.returns-in-Some-clause-first
returns-in-Some-clause-first c =
    let F = c.args.nodes.now.facts.now in
    let H = c.args.nodes.now.hier.now in
    found_in (length H.order.live) c.loop-n.n (length H.order.live) (λ n x. first_below (length H.order.live) (unchained F H n x)) c.loop-n.invariant.none
    c.in-Some.ensures.first (omega arith)
