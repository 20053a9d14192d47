use Rattle.std.proofs.Common.{◌-◌}
use Rattle.table_rules.specs.State.{IsOpen}
use Rattle.table_rules.proofs.turns.meet_columns.Given as goal

abbrev pub invariant-scan : goal.invariant-scan
invariant-scan l = IsOpen l.given l.state

abbrev pub decreases-scan : goal.decreases-scan
decreases-scan l = l.width - l.at
