use Rattle.std.proofs.Common.{subst}
use Rattle.kaba_top.specs.RegenAnswers.{RegenOf}
use Rattle.kaba_top.specs.Analyses.{IsAnalysisOf}
use Rattle.kaba_top.proofs.Analysing.{analysed}
use Rattle.kaba_top.proofs.regen.regen_program.Goals as goal

pub returns-in-Found : goal.returns-in-Found
returns-in-Found c =
    analysed (RegenOf c.args.task.now.bound c.args.task.now.script.now.items c.args.program.now) c.args.program.now c.in-Found.facts c.regen_reply.result
    (subst (IsAnalysisOf c.args.program.now) c.in-Found.is c.in_ok-facts.ensures) c.regen_reply.ensures
