use Rattle.std.proofs.Common.{◌≡◌, ℕ, ◌||◌, List, take}
use Rattle.fact_model.specs.FreeNames.{is_taken}
use Rattle.fact_model.specs.Taken.{texts}
use Rattle.hier_model.proofs.names.add_names.Given as goal

abbrev pub invariant-loop-k : goal.invariant-loop-k
invariant-loop-k l = (x : List ℕ) → is_taken (texts l.taken.keys) x ≡ (is_taken (texts l.initial.taken.keys) x || is_taken (take l.k l.names) x)
