use Rattle.std.proofs.Common.{subst}
use Rattle.kaba_top.specs.EditAnswers.{EditOf}
use Rattle.kaba_top.specs.Analyses.{IsAnalysisOf}
use Rattle.kaba_top.proofs.Analysing.{analysed}
use Rattle.kaba_top.proofs.edit.edit_program.Goals as goal

pub returns-in-Found : goal.returns-in-Found
returns-in-Found c =
    analysed (EditOf c.args.task.now.bound c.args.task.now.script.now.items) c.args.program.now c.in-Found.facts c.edit_reply.result
    (subst (IsAnalysisOf c.args.program.now) c.in-Found.is c.in_ok-facts.ensures) c.edit_reply.ensures
