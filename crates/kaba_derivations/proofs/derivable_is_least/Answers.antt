use Rattle.std.proofs.Common.{◌≡◌, true}
use Rattle.kaba_derivations.specs.Laws.{accepted}
use Rattle.kaba_derivations.proofs.Derivations.{derivable_least}
use Rattle.kaba_derivations.proofs.derivable_is_least.Goals as goal

pub returns : goal.returns
returns t c = λ test set. derivable_least (accepted test) (λ a. set a ≡ true)
