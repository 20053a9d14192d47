use Rattle.run_code.proofs.Runs.{machine_runs}
use Rattle.run_code.proofs.machine_runs.Goals as goal

pub returns : goal.returns
returns c = record { runs = λ P formed T fits words n b e hb he. machine_runs P formed T fits words n b e hb he }
