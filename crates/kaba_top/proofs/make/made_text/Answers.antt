use Rattle.std.proofs.Common.{subst}
use Rattle.kaba_top.specs.MakeAnswers.{WrittenGives}
use Rattle.kaba_top.specs.Readings.{IsMadeReading}
use Rattle.kaba_top.proofs.Making.{made_answers}
use Rattle.kaba_top.proofs.make.made_text.Goals as goal

pub returns-in-Typed : goal.returns-in-Typed
returns-in-Typed c =
    made_answers (WrittenGives c.args.counts.now) c.args.text.now.items c.in-Typed.program c.run_written.result
    (subst (IsMadeReading c.args.text.now.items) c.in-Typed.is c.in_ok-program.ensures.reading) c.run_written.ensures
