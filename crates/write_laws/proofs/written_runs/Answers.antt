use Rattle.write_laws.proofs.runs.Whole.{written_runs}
use Rattle.write_laws.proofs.written_runs.Goals as goal

pub returns : goal.returns
returns c = written_runs
