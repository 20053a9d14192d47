use Rattle.std.proofs.Common.{◌-◌, length}
use Rattle.why_table.specs.Search.{AreSteps}
use Rattle.why_table.proofs.find.search.searched.Given as goal

abbrev pub invariant-more : goal.invariant-more
invariant-more l = AreSteps l.given.facts.now l.steps.items

abbrev pub decreases-more : goal.decreases-more
decreases-more l = 4294967295 - length l.steps.items
