use Rattle.std.proofs.Common.{◌≡◌, ℕ, ◌<◌}
use Rattle.why_table.specs.Trails.{claim_at}
use Rattle.why_table.proofs.find.steps.number_of_claim.Given as goal

abbrev pub invariant-loop-k : goal.invariant-loop-k
invariant-loop-k l = (i : ℕ) → i < l.k → claim_at l.steps i ≡ l.claim → ⊥
