use Rattle.std.proofs.Common.{◌≡◌, ℕ, Some}
use Rattle.std.specs.List.{slice_get}
use Rattle.kaba_versions.specs.declared.VersionMap.{VersionMap}
use Rattle.java_core.proofs.nearest.none_yet.Given as goal

abbrev pub invariant-loop-k : goal.invariant-loop-k
invariant-loop-k l = (c : ℕ) (m : VersionMap) → slice_get l.all.items c ≡ Some (Some m) → ⊥
