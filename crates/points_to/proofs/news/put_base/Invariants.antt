use Rattle.std.proofs.Common.{◌-◌}
use Rattle.points_to.specs.Sound.{AreSound}
use Rattle.points_to.proofs.news.put_base.Given as goal

abbrev pub invariant-scan : goal.invariant-scan
invariant-scan l = AreSound l.facts l.now

abbrev pub decreases-scan : goal.decreases-scan
decreases-scan l = l.width - l.at
