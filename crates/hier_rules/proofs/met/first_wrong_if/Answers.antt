use Rattle.std.proofs.Common.{sym, ◌∙◌}
use Rattle.std.proofs.lemmas.Bool.{false≢true}
use Rattle.hier_rules.proofs.MetLemmas.{no_low}
use Rattle.hier_rules.proofs.met.first_wrong_if.Goals as goal

pub returns-then-not-meets : goal.returns-then-not-meets
returns-then-not-meets c =
    sym (no_low c.args.asked.now.facts.now c.args.asked.now.pt.now c.args.asked.now.hier.now c.args.p c.args.sites.now c.args.low.now
    c.requires.sites c.requires.others (λ m. false≢true (sym c.if-not-meets.true ∙ c.meets.ensures.1 m)))
