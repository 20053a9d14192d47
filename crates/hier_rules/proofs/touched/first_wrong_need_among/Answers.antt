use Rattle.std.proofs.Common.{length, ◌∙◌, sym, arith}
use Rattle.hier_rules.specs.Asked.{slots_of}
use Rattle.hier_rules.specs.Obligations.{wrong_need}
use Rattle.hier_rules.proofs.FoundLemmas.{found_in}
use Rattle.hier_rules.proofs.touched.first_wrong_need_among.Goals as goal

pub returns-in-Some : goal.returns-in-Some
returns-in-Some c =
    let F = c.args.asked.now.facts.now in
    let H = c.args.asked.now.hier.now in
    found_in (slots_of F) c.loop-s.s (length F.sites.items) (wrong_need F c.args.asked.now.pt.now H) c.loop-s.invariant (sym c.in-Some.is
    ∙ c.in_ok-found.ensures) (omega arith)
