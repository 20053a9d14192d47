use Rattle.std.proofs.Common.{subst}
use Rattle.kaba_top.specs.FactsAnswers.{AnalysisAnswers, LatticeOf}
use Rattle.kaba_top.specs.Readings.{IsProgramReading}
use Rattle.kaba_top.proofs.Texts.{answers}
use Rattle.kaba_top.proofs.analysis.lattice_text.Goals as goal

pub returns-in-Typed : goal.returns-in-Typed
returns-in-Typed c = record {
  answers = answers (AnalysisAnswers (LatticeOf c.args.json c.args.bound)) c.args.bytes.now.items c.in-Typed.program c.lattice_program.result
      (subst (IsProgramReading c.args.bytes.now.items) c.in-Typed.is c.in_ok-program.ensures.reading)
      c.lattice_program.ensures;
}
