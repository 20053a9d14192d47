use Rattle.std.proofs.Common.{ℕ, ◌<◌, [], ◌∷◌}
use Rattle.why_table.specs.Search.{NoneUpTo}
use Rattle.why_table.proofs.find.search.by_first.Given as goal

abbrev pub invariant-loop-i : goal.invariant-loop-i
invariant-loop-i l = (i : ℕ) → i < l.i → NoneUpTo l.asked.facts.now l.asked.steps.now l.asked.claim l.rule (i ∷ []) 2
