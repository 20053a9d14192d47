use Rattle.std.proofs.Common.{◌≡◌, ℕ, ◌≤◌, length, drop}
use Rattle.kaba_versions.specs.Held.{holds}
use Rattle.java_core.specs.Classes.{first_or}
use Rattle.java_core.specs.Nearest.{numbered_among}
use Rattle.java_core.proofs.nearest.with_members.Given as goal

-- the members from the one at hand on come before those of the version that it began with
abbrev pub invariant-back : goal.invariant-back
invariant-back l = (l.left ≤ length l.own)
    × ((i : ℕ) → holds l.now i ≡ first_or (numbered_among l.numbers i (drop l.left l.own)) (holds l.initial.now i))

abbrev pub decreases-back : goal.decreases-back
decreases-back l = l.left
