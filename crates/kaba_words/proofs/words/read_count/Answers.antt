use Rattle.kaba_words.specs.Commands.{texts}
use Rattle.kaba_words.proofs.Patterns.{not_zero, zero_read}
use Rattle.kaba_words.proofs.words.read_count.Goals as goal

pub returns-in-Some-eq0-clause-usage : goal.returns-in-Some-eq0-clause-usage
returns-in-Some-eq0-clause-usage c = λ h n rest. not_zero (texts c.args.arguments.now.words.now) n c.in-Some.word.now rest _ c.in-Some.ensures
    (zero_read c.in-Some.word.now c.in-Ok.made c.in-Some-eq0.field-0 c.in-Some-eq0.is c.in-Some-eq0.field-0-test c.in-Ok.ensures)
