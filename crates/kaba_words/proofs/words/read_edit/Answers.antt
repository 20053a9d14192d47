use Rattle.kaba_words.specs.Commands.{texts}
use Rattle.kaba_words.proofs.Patterns.{no_bound_for_edit, same_fault}
use Rattle.kaba_words.proofs.words.read_edit.Goals as goal

pub returns-in-Err-clause-usage : goal.returns-in-Err-clause-usage
returns-in-Err-clause-usage c = λ h. no_bound_for_edit (texts c.args.arguments.words.now) (c.in-Err.ensures.usage (same_fault _ _ h))
