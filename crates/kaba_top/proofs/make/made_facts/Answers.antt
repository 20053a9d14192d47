use Rattle.std.proofs.Common.{inl, subst}
use Rattle.kaba_words.specs.Commands.{usual_concepts}
use Rattle.kaba_top.specs.Proposals.{IsProposed, IsWrittenOver}
use Rattle.kaba_top.proofs.Making.{not_run, never_stuck, made}
use Rattle.kaba_top.proofs.Reaching.{no_interface}
use Rattle.kaba_top.proofs.make.made_facts.Goals as goal

pub regenerate-requires-clause-table : goal.regenerate-requires-clause-table
regenerate-requires-clause-table c =
    let is = subst (IsProposed usual_concepts c.new-script.result.items c.args.facts.now) c.in-Edited.is c.in_ok-proposal.ensures.proposed in
    (c.in-Edited.proposal.table, is.is_table)

pub returns-in-Refused : goal.returns-in-Refused
returns-in-Refused c =
    let script = c.new-script.result.items in
    let reply = c.in-Refused.reply in
    inl (not_run c.args.facts.now script reply.status reply.out.items reply.err.items c.new-script.ensures.items
    (subst (IsProposed usual_concepts script c.args.facts.now) c.in-Refused.is c.in_ok-proposal.ensures.proposed))

pub returns : goal.returns
returns c =
    let F = c.args.facts.now in
    let p = c.in-Edited.proposal in
    let script = c.new-script.result.items in
    made c.args.program.now F script p c.in-Written.hier c.in-Written.log.items c.in-Written.text.items c.in_ok-counts-in-Written.counts
    c.made_text.result c.new-script.ensures.items
    (subst (IsProposed usual_concepts script F) c.in-Edited.is c.in_ok-proposal.ensures.proposed)
    (subst (IsWrittenOver c.args.program.now F p.sets p.edited.hier) c.in-Written.is c.in_ok-hier.ensures.regenerated)
    c.in_ok-counts-in-Written.ensures c.made_text.ensures

pub unreachable-requires : goal.unreachable-requires
unreachable-requires c =
    let F = c.args.facts.now in
    let p = c.in-Edited.proposal in
    let script = c.new-script.result.items in
    never_stuck F script p c.in-Stuck.field-0 c.new-script.ensures.items
    (subst (IsProposed usual_concepts script F) c.in-Edited.is c.in_ok-proposal.ensures.proposed)
    c.requires.facts.in_range c.requires.facts.in_order
    (no_interface c.args.program.now F c.requires.facts c.requires.classes)
    (subst (IsWrittenOver c.args.program.now F p.sets p.edited.hier) c.in-Stuck.is c.in_ok-hier.ensures.regenerated)
