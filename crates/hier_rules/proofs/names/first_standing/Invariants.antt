use Rattle.std.proofs.Common.{◌≡◌, ℕ, ◌<◌, false, get_or}
use Rattle.hier_model.specs.Hierarchies.{stands_at}
use Rattle.hier_rules.proofs.names.first_standing.Given as goal

abbrev pub invariant-loop-c : goal.invariant-loop-c
invariant-loop-c l = (j : ℕ) → j < l.c-index → stands_at l.asked.hier.now l.n (get_or l.list j 0) ≡ false
