use Rattle.std.proofs.Common.{subst}
use Rattle.kaba_top.specs.Proposals.{IsProposed, IsWrittenOver}
use Rattle.kaba_top.proofs.Analysing.{regenerated, stuck_answers}
use Rattle.kaba_top.proofs.regen.regen_reply.Goals as goal

pub regenerate-requires-clause-table : goal.regenerate-requires-clause-table
regenerate-requires-clause-table c =
    let is = subst (IsProposed c.args.task.now.bound c.args.task.now.script.now.items c.args.facts.now) c.in-Edited.is c.in_ok-proposal.ensures.proposed in
    (c.in-Edited.proposal.table, is.is_table)

pub returns-in-Written : goal.returns-in-Written
returns-in-Written c =
    let F = c.args.facts.now in
    let p = c.in-Edited.proposal in
    regenerated c.args.task.now.bound c.args.task.now.script.now.items c.args.program.now F p c.in-Written.hier c.in-Written.log.items
    c.in-Written.text.items c.written_reply.result
    (subst (IsProposed c.args.task.now.bound c.args.task.now.script.now.items F) c.in-Edited.is c.in_ok-proposal.ensures.proposed)
    (subst (IsWrittenOver c.args.program.now F p.sets p.edited.hier) c.in-Written.is c.in_ok-log.ensures.regenerated)
    c.written_reply.ensures

pub returns : goal.returns
returns c =
    let F = c.args.facts.now in
    let p = c.in-Edited.proposal in
    stuck_answers c.args.task.now.bound c.args.task.now.script.now.items c.args.program.now F p c.in-Stuck.fault c.stuck.result
    (subst (IsProposed c.args.task.now.bound c.args.task.now.script.now.items F) c.in-Edited.is c.in_ok-proposal.ensures.proposed)
    c.requires.facts
    (subst (IsWrittenOver c.args.program.now F p.sets p.edited.hier) c.in-Stuck.is c.in_ok-log.ensures.regenerated)
    c.stuck.ensures
