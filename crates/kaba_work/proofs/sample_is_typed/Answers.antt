use Rattle.kaba_work.proofs.Law.{sample_resolves, sample_has_program, sample_typed}
use Rattle.kaba_work.proofs.sample_is_typed.Goals as goal

pub returns : goal.returns
returns c = record { resolves = sample_resolves; program = sample_has_program; typed = sample_typed }
