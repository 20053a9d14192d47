use Rattle.std.proofs.Common.{◌≡◌, ℕ, ◌<◌, true}
use Rattle.kaba_bits.specs.Sets.{bit}
use Rattle.why_table.specs.Search.{IsDone, claim_of}
use Rattle.why_table.proofs.find.search.in_set.Given as goal

abbrev pub invariant-loop-b : goal.invariant-loop-b
invariant-loop-b l = (b : ℕ) → b < l.b → bit l.set b ≡ true → IsDone l.given.facts.now l.steps (claim_of l.kind l.a b)
