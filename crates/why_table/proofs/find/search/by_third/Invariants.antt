use Rattle.std.proofs.Common.{ℕ, ◌<◌, [], ◌∷◌}
use Rattle.why_table.specs.Search.{NoneBy}
use Rattle.why_table.proofs.find.search.by_third.Given as goal

abbrev pub invariant-loop-k : goal.invariant-loop-k
invariant-loop-k l = (k : ℕ) → k < l.k → NoneBy l.asked.facts.now l.asked.steps.now l.asked.claim l.rule (l.i ∷ l.j ∷ k ∷ [])
