use Rattle.std.proofs.Common.{◌≡◌, ℕ, ◌<◌, length, drop}
use Rattle.java_core.specs.Programs.{program_of}
use Rattle.java_core.specs.Classes.{first_or}
use Rattle.java_check.specs.NearOutcome.{kept_at, declared_among}
use Rattle.java_check.proofs.nearest.keep_all.Given as goal

-- what is kept so far, and what the rest has
abbrev pub invariant-loop-at : goal.invariant-loop-at
invariant-loop-at l = record {
  len : length l.near ≡ length l.fn.near;
  kept : (s : ℕ) → s < length l.fn.near
      → first_or (kept_at l.near s) (declared_among (program_of l.p) l.class.0 s (drop l.at-index l.list))
      ≡ first_or (kept_at l.fn.near s) (declared_among (program_of l.p) l.class.0 s l.list);
}
