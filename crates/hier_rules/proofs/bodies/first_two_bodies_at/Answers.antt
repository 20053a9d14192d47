use Rattle.std.proofs.Common.{length, arith}
use Rattle.hier_rules.specs.Obligations.{two_bodies}
use Rattle.hier_rules.proofs.FoundLemmas.{found_in}
use Rattle.hier_rules.proofs.bodies.first_two_bodies_at.Goals as goal

pub returns-in-Some : goal.returns-in-Some
returns-in-Some c =
    let F = c.args.asked.now.facts.now in
    let H = c.args.asked.now.hier.now in
    found_in (length F.columns.items) c.loop-c.c (length F.columns.items) (two_bodies F H c.args.n) c.loop-c.invariant c.in-Some.ensures (omega arith)
