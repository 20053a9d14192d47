use Rattle.rebuild_laws.proofs.types.Whole.{written_is_typed}
use Rattle.rebuild_laws.proofs.written_is_typed.Goals as goal

pub returns : goal.returns
returns c = written_is_typed
