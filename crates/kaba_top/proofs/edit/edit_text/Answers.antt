use Rattle.std.proofs.Common.{subst}
use Rattle.kaba_top.specs.FactsAnswers.{AnalysisAnswers}
use Rattle.kaba_top.specs.EditAnswers.{EditOf}
use Rattle.kaba_top.specs.Readings.{IsProgramReading}
use Rattle.kaba_top.proofs.Texts.{answers}
use Rattle.kaba_top.proofs.edit.edit_text.Goals as goal

pub returns-in-Typed : goal.returns-in-Typed
returns-in-Typed c = record {
  answers = answers (AnalysisAnswers (EditOf c.args.task.now.bound c.args.task.now.script.now.items)) c.args.bytes.now.items c.in-Typed.program
      c.edit_program.result
      (subst (IsProgramReading c.args.bytes.now.items) c.in-Typed.is c.in_ok-program.ensures.reading)
      c.edit_program.ensures;
}
