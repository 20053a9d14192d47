use Rattle.std.proofs.Common.{ℕ, ◌<◌, [], ◌∷◌}
use Rattle.why_table.specs.Search.{NoneUpTo}
use Rattle.why_table.proofs.find.search.by_second.Given as goal

abbrev pub invariant-loop-j : goal.invariant-loop-j
invariant-loop-j l = (j : ℕ) → j < l.j → NoneUpTo l.asked.facts.now l.asked.steps.now l.asked.claim l.rule (l.i ∷ j ∷ []) 1
