use Rattle.std.proofs.Common.{subst}
use Rattle.kaba_top.specs.FactsAnswers.{AnalysisAnswers}
use Rattle.kaba_top.specs.MakeAnswers.{MadeOf}
use Rattle.kaba_top.specs.Readings.{IsMadeReading}
use Rattle.kaba_top.proofs.Making.{made_answers}
use Rattle.kaba_top.proofs.make.made_sample.Goals as goal

pub returns-in-Typed : goal.returns-in-Typed
returns-in-Typed c =
    made_answers (λ program. AnalysisAnswers (MadeOf program) program) c.args.text.now.items c.in-Typed.program c.made_program.result
    (subst (IsMadeReading c.args.text.now.items) c.in-Typed.is c.in_ok-program.ensures.reading) c.made_program.ensures

pub made_program-requires-clause-classes : goal.made_program-requires-clause-classes
made_program-requires-clause-classes c =
    c.requires.classes c.in-Typed.program
    (subst (IsMadeReading c.args.text.now.items) c.in-Typed.is c.in_ok-program.ensures.reading).1
