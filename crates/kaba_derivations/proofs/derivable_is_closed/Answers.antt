use Rattle.kaba_derivations.specs.Laws.{accepted}
use Rattle.kaba_derivations.proofs.Derivations.{derivable_by}
use Rattle.kaba_derivations.proofs.derivable_is_closed.Goals as goal

pub returns : goal.returns
returns t c = λ test. derivable_by (accepted test)
