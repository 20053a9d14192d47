use Rattle.std.proofs.Common.{◌≡◌, ℕ, ◌<◌, get_or, None}
use Rattle.hier_rules.specs.Obligations.{first_wrong_of_place}
use Rattle.hier_rules.proofs.met.first_wrong_outcome_among.Given as goal

abbrev pub invariant-loop-k : goal.invariant-loop-k
invariant-loop-k l = (j : ℕ) → j < l.k → first_wrong_of_place l.asked.facts.now l.asked.pt.now l.asked.hier.now (get_or l.index.places.items j 0) ≡ None
