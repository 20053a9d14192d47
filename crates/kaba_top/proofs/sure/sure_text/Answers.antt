use Rattle.std.proofs.Common.{subst}
use Rattle.kaba_top.specs.FactsAnswers.{AnalysisAnswers}
use Rattle.kaba_top.specs.SureAnswers.{SureOf}
use Rattle.kaba_top.specs.Readings.{IsProgramReading}
use Rattle.kaba_top.proofs.Texts.{answers}
use Rattle.kaba_top.proofs.sure.sure_text.Goals as goal

pub returns-in-Typed : goal.returns-in-Typed
returns-in-Typed c = record {
  answers = answers (AnalysisAnswers SureOf) c.args.bytes.now.items c.in-Typed.program c.sure_program.result
      (subst (IsProgramReading c.args.bytes.now.items) c.in-Typed.is c.in_ok-program.ensures.reading)
      c.sure_program.ensures;
}
