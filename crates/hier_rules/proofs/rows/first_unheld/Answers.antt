use Rattle.std.proofs.Common.{length, arith}
use Rattle.hier_rules.specs.Obligations.{unheld}
use Rattle.hier_rules.proofs.FoundLemmas.{found_in}
use Rattle.hier_rules.proofs.rows.first_unheld.Goals as goal

pub returns-in-Some : goal.returns-in-Some
returns-in-Some c =
    let F = c.args.asked.now.facts.now in
    let H = c.args.asked.now.hier.now in
    found_in (length F.rows.items) c.loop-o.o (length F.sites.items) (unheld F c.args.asked.now.pt.now H) c.loop-o.invariant c.in-Some.ensures (omega arith)
