use Rattle.std.proofs.Common.{subst}
use Rattle.kaba_words.specs.Commands.{texts}
use Rattle.kaba_top.specs.RunAnswers.{RunAnswers}
use Rattle.kaba_top.specs.Readings.{IsProgramReading}
use Rattle.kaba_top.proofs.Texts.{answers}
use Rattle.kaba_top.proofs.run.run_text.Goals as goal

pub returns-in-Typed : goal.returns-in-Typed
returns-in-Typed c = record {
  answers = answers (RunAnswers c.args.steps (texts c.args.words.now.items)) c.args.bytes.now.items c.in-Typed.program c.run_program.result
      (subst (IsProgramReading c.args.bytes.now.items) c.in-Typed.is c.in_ok-program.ensures.reading)
      c.run_program.ensures;
}
