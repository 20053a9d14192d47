use Rattle.std.proofs.Common.{length, arith}
use Rattle.hier_rules.specs.Names.{confused}
use Rattle.hier_rules.proofs.FoundLemmas.{found_in}
use Rattle.hier_rules.proofs.clashes.first_confused_among.Goals as goal

pub returns-in-Some : goal.returns-in-Some
returns-in-Some c =
    let F = c.args.asked.now.facts.now in
    let H = c.args.asked.now.hier.now in
    found_in (length F.columns.items) c.loop-n.n (length H.order.live) (confused F H) c.loop-n.invariant c.in-Some.ensures (omega arith)
