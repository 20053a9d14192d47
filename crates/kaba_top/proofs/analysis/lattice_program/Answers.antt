use Rattle.std.proofs.Common.{subst}
use Rattle.kaba_top.specs.FactsAnswers.{LatticeOf}
use Rattle.kaba_top.specs.Analyses.{IsAnalysisOf}
use Rattle.kaba_top.proofs.Analysing.{analysed}
use Rattle.kaba_top.proofs.analysis.lattice_program.Goals as goal

pub returns-in-Found : goal.returns-in-Found
returns-in-Found c = analysed (LatticeOf c.args.json c.args.bound) c.args.program.now c.in-Found.facts c.lattice_reply.result
    (subst (IsAnalysisOf c.args.program.now) c.in-Found.is c.in_ok-facts.ensures) c.lattice_reply.ensures
