use Rattle.table_rules.specs.Gathered.{HaveAllSites}
use Rattle.table_rules.proofs.sites.gather.Given as goal

abbrev pub invariant-loop-v : goal.invariant-loop-v
invariant-loop-v l = HaveAllSites l.given.facts.now l.group l.both
