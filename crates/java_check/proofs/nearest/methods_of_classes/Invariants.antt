use Rattle.std.proofs.Common.{◌≡◌, ℕ, ◌++◌, drop, map}
use Rattle.java_core.specs.Owned.{listed, owned_from}
use Rattle.java_check.specs.NearOutcome.{method_owner}
use Rattle.java_check.proofs.nearest.methods_of_classes.Given as goal

-- the numbers so far, and those of the rest
abbrev pub invariant-loop-k : goal.invariant-loop-k
invariant-loop-k l = (c : ℕ) → listed l.lists.items c ++ owned_from l.k c (map (λ m. method_owner m) (drop l.k l.list))
    ≡ owned_from 0 c (map (λ m. method_owner m) l.list)
