use Rattle.std.proofs.Common.{length, arith}
use Rattle.hier_rules.specs.Obligations.{wrong_super}
use Rattle.hier_rules.proofs.FoundLemmas.{found_in}
use Rattle.hier_rules.proofs.touched.first_wrong_super_among.Goals as goal

pub returns-in-Some : goal.returns-in-Some
returns-in-Some c =
    let F = c.args.asked.now.facts.now in
    let H = c.args.asked.now.hier.now in
    found_in (length F.columns.items) c.loop-r.r (length F.rows.items) (wrong_super F H) c.loop-r.invariant c.in-Some.ensures (omega arith)
