use Rattle.why_table.specs.Search.{AreSteps}
use Rattle.why_table.proofs.find.search.taken.Given as goal

abbrev pub invariant-loop-step : goal.invariant-loop-step
invariant-loop-step l = AreSteps l.given.facts.now l.steps.items
