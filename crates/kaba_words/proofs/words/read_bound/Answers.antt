use Rattle.kaba_words.specs.Commands.{texts}
use Rattle.kaba_words.proofs.Patterns.{none_asked}
use Rattle.kaba_words.proofs.words.read_bound.Goals as goal

pub returns-then-flag-clause-usage : goal.returns-then-flag-clause-usage
returns-then-flag-clause-usage c = λ h. none_asked (texts c.args.arguments.now.words.now) (texts c.flag.new.self.words.now) c.flag.result
    c.if-flag.true c.flag.ensures (c.read_count.ensures.usage h)
