use Rattle.std.proofs.Common.{length, ◌∙◌, sym, arith}
use Rattle.hier_rules.specs.Obligations.{wrong_outcome}
use Rattle.hier_rules.proofs.FoundLemmas.{found_in}
use Rattle.hier_rules.proofs.outcomes.first_wrong_target.Goals as goal

pub returns-in-Some : goal.returns-in-Some
returns-in-Some c =
    let F = c.args.asked.now.facts.now in
    let H = c.args.asked.now.hier.now in
    found_in (length F.sites.items) c.loop-t.t (length F.rows.items) (wrong_outcome F c.args.asked.now.pt.now H c.args.p) c.loop-t.invariant (sym c.in-Some.is
    ∙ c.in_ok-found.ensures) (omega arith)
