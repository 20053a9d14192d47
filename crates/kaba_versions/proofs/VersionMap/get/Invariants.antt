use Rattle.std.proofs.Common.{◌≡◌}
use Rattle.kaba_versions.specs.Held.{held}
use Rattle.kaba_versions.proofs.VersionMap.get.Given as goal

-- what is left to go down for
abbrev pub invariant-down : goal.invariant-down
invariant-down l = held l.at.value l.left ≡ held l.initial.at.value l.initial.left

abbrev pub decreases-down : goal.decreases-down
decreases-down l = l.left
