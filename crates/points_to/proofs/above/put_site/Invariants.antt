use Rattle.std.proofs.Common.{◌-◌}
use Rattle.points_to.specs.Above.{HaveGainedSite}
use Rattle.points_to.proofs.above.put_site.Given as goal

abbrev pub invariant-scan : goal.invariant-scan
invariant-scan l = HaveGainedSite l.fn.rows l.rows l.classes l.s l.at

abbrev pub decreases-scan : goal.decreases-scan
decreases-scan l = l.count - l.at
