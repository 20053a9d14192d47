use Rattle.kaba_words.specs.Commands.{texts}
use Rattle.kaba_words.proofs.Patterns.{no_bound, same_fault}
use Rattle.kaba_words.proofs.words.read_lattice.Goals as goal

pub returns-in-Err-clause-usage : goal.returns-in-Err-clause-usage
returns-in-Err-clause-usage c = λ h. no_bound (texts c.args.arguments.words.now) (texts c.flag-json.new.self.words.now) c.flag-json.result
    c.flag-json.ensures (c.in-Err.ensures.usage (same_fault _ _ h))
