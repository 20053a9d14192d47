use Rattle.std.proofs.Common.{length, arith}
use Rattle.hier_rules.specs.Obligations.{untied}
use Rattle.hier_rules.proofs.FoundLemmas.{found_in}
use Rattle.hier_rules.proofs.rows.first_tie.Goals as goal

pub returns-in-Some : goal.returns-in-Some
returns-in-Some c =
    let F = c.args.asked.now.facts.now in
    let H = c.args.asked.now.hier.now in
    found_in (length F.rows.items) c.loop-l.l (length F.rows.items) (untied F H) c.loop-l.invariant c.in-Some.ensures (omega arith)
