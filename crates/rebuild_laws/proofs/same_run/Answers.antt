use Rattle.rebuild_laws.proofs.runs.Whole.{rebuilt_runs_the_same}
use Rattle.rebuild_laws.proofs.same_run.Goals as goal

pub returns : goal.returns
returns c = rebuilt_runs_the_same
