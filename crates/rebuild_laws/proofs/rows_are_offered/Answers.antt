use Rattle.rebuild_laws.proofs.types.Whole.{rows_are_offered}
use Rattle.rebuild_laws.proofs.rows_are_offered.Goals as goal

pub returns : goal.returns
returns c = rows_are_offered
