use Rattle.std.proofs.Common.{◌-◌}
use Rattle.table_rules.specs.Gathered.{HaveAllSites}
use Rattle.table_rules.specs.State.{IsOpen}
use Rattle.table_rules.proofs.sites.give_sites.Given as goal

abbrev pub invariant-scan : goal.invariant-scan
invariant-scan l = record { state : IsOpen l.given l.state; both : HaveAllSites l.given.facts.now l.group l.state.both }

abbrev pub decreases-scan : goal.decreases-scan
decreases-scan l = l.width - l.at
