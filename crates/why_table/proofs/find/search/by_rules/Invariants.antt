use Rattle.std.proofs.Common.{ℕ, ◌<◌, []}
use Rattle.why_table.specs.Search.{NoneUpTo, rule_at}
use Rattle.why_table.proofs.find.search.by_rules.Given as goal

abbrev pub invariant-loop-k : goal.invariant-loop-k
invariant-loop-k l = (k : ℕ) → k < l.k → NoneUpTo l.asked.facts.now l.asked.steps.now l.asked.claim (rule_at k) [] 3
