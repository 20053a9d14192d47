use Rattle.rebuild_laws.proofs.one.Whole.{one_runs_the_same}
use Rattle.rebuild_laws.proofs.one_run.Goals as goal

pub returns : goal.returns
returns c = one_runs_the_same
