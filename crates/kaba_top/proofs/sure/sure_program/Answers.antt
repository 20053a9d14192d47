use Rattle.std.proofs.Common.{subst}
use Rattle.kaba_top.specs.SureAnswers.{SureOf}
use Rattle.kaba_top.specs.Analyses.{IsAnalysisOf}
use Rattle.kaba_top.proofs.Analysing.{analysed}
use Rattle.kaba_top.proofs.sure.sure_program.Goals as goal

pub returns-in-Found : goal.returns-in-Found
returns-in-Found c = analysed SureOf c.args.program.now c.in-Found.facts c.sure_reply.result
    (subst (IsAnalysisOf c.args.program.now) c.in-Found.is c.in_ok-facts.ensures) c.sure_reply.ensures
