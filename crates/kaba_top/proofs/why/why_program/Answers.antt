use Rattle.std.proofs.Common.{subst}
use Rattle.kaba_top.specs.WhyAnswers.{WhyOf}
use Rattle.kaba_top.specs.Analyses.{IsAnalysisOf}
use Rattle.kaba_top.proofs.Analysing.{analysed}
use Rattle.kaba_top.proofs.why.why_program.Goals as goal

pub returns-in-Found : goal.returns-in-Found
returns-in-Found c = analysed (WhyOf c.args.asked.row c.args.asked.column) c.args.program.now c.in-Found.facts c.why_reply.result
    (subst (IsAnalysisOf c.args.program.now) c.in-Found.is c.in_ok-facts.ensures) c.why_reply.ensures
