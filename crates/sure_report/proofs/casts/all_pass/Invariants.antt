use Rattle.std.proofs.Common.{ℕ, ◌<◌}
use Rattle.fact_model.specs.Items.{site_class}
use Rattle.fact_model.specs.Classes.{IsBelow}
use Rattle.sure_report.specs.Report.{InPoint}
use Rattle.sure_report.proofs.casts.all_pass.Given as goal

abbrev pub invariant-loop-s : goal.invariant-loop-s
invariant-loop-s l = (k : ℕ) → k < l.s → InPoint l.facts l.pt l.x.from k → IsBelow l.facts (site_class l.facts k) l.x.class.0
