use Rattle.kaba_words.specs.Commands.{texts}
use Rattle.kaba_words.proofs.Patterns.{none_to_make, only_zero, zero_to_make}
use Rattle.kaba_words.proofs.words.read_make.Goals as goal

pub returns-in-Some-eq0-clause-usage : goal.returns-in-Some-eq0-clause-usage
returns-in-Some-eq0-clause-usage c = λ h. none_to_make (texts c.args.arguments.words.now) (texts c.flag-prints.new.self.words.now)
    c.flag-prints.result c.in-Some.word.now c.flag-prints.ensures c.in-Some.ensures
    (λ n k some. only_zero c.in-Some.word.now n (zero_to_make c.in-Some.word.now c.in-Ok.made c.in-Some-eq0.field-0 c.in-Some-eq0.is
    c.in-Some-eq0.field-0-test c.in-Ok.ensures) k some)
