use Rattle.std.proofs.Common.{subst}
use Rattle.kaba_top.specs.MakeAnswers.{MadeOf}
use Rattle.kaba_top.specs.Analyses.{IsAnalysisOf}
use Rattle.kaba_top.proofs.Analysing.{analysed}
use Rattle.kaba_top.proofs.make.made_program.Goals as goal

pub returns-in-Found : goal.returns-in-Found
returns-in-Found c =
    analysed (MadeOf c.args.program.now) c.args.program.now c.in-Found.facts c.made_facts.result
    (subst (IsAnalysisOf c.args.program.now) c.in-Found.is c.in_ok-facts.ensures) c.made_facts.ensures
