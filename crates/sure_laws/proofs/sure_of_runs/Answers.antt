use Rattle.sure_laws.proofs.Recorded.{run_recorded}
use Rattle.sure_laws.proofs.Meeting.{meet_in_sets}
use Rattle.sure_laws.proofs.Sure.{reports_true}
use Rattle.sure_laws.proofs.sure_of_runs.Goals as goal

pub returns : goal.returns
returns c = record { recorded = run_recorded; met = meet_in_sets; reports = reports_true }
