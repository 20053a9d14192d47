use Rattle.std.proofs.Common.{subst}
use Rattle.kaba_top.specs.FactsAnswers.{AnalysisAnswers}
use Rattle.kaba_top.specs.RegenAnswers.{RegenOf}
use Rattle.kaba_top.specs.Readings.{IsProgramReading}
use Rattle.kaba_top.proofs.Texts.{answers}
use Rattle.kaba_top.proofs.regen.regen_text.Goals as goal

pub returns-in-Typed : goal.returns-in-Typed
returns-in-Typed c = record {
  answers = answers (λ program. AnalysisAnswers (RegenOf c.args.task.now.bound c.args.task.now.script.now.items program) program) c.args.bytes.now.items
      c.in-Typed.program c.regen_program.result
      (subst (IsProgramReading c.args.bytes.now.items) c.in-Typed.is c.in_ok-program.ensures.reading)
      c.regen_program.ensures;
}
