use Rattle.std.proofs.Common.{subst}
use Rattle.kaba_top.specs.BaseAnswers.{BaseOf}
use Rattle.kaba_top.specs.Analyses.{IsAnalysisOf}
use Rattle.kaba_top.proofs.Analysing.{analysed}
use Rattle.kaba_top.proofs.base.base_program.Goals as goal

pub returns-in-Found : goal.returns-in-Found
returns-in-Found c = analysed BaseOf c.args.program.now c.in-Found.facts c.base_reply.result
    (subst (IsAnalysisOf c.args.program.now) c.in-Found.is c.in_ok-facts.ensures) c.base_reply.ensures
