use Rattle.std.proofs.Common.{subst}
use Rattle.kaba_top.specs.Proposals.{IsProposed}
use Rattle.kaba_top.proofs.Analysing.{shows}
use Rattle.kaba_top.proofs.edit.edit_reply.Goals as goal

pub returns-in-Edited : goal.returns-in-Edited
returns-in-Edited c =
    shows c.args.task.now.bound c.args.task.now.script.now.items c.args.facts.now c.in-Edited.proposal c.show.result
    (subst (IsProposed c.args.task.now.bound c.args.task.now.script.now.items c.args.facts.now) c.in-Edited.is c.in_ok-proposal.ensures.proposed) c.show.ensures
