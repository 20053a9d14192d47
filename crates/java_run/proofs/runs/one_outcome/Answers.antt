use Rattle.java_run.proofs.Starts.{same_out, same_end, same_used}
use Rattle.java_run.proofs.runs.one_outcome.Goals as goal

pub returns : goal.returns
returns c = record { out = same_out; end = same_end; used = same_used }
