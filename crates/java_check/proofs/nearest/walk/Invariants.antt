use Rattle.std.proofs.Common.{◌≡◌, ℕ, ◌+◌, ◌-◌, ◌<◌, Some, length}
use Rattle.java_core.specs.Programs.{program_of}
use Rattle.java_core.specs.Classes.{first_or}
use Rattle.java_check.specs.NearOutcome.{kept_at, found_in}
use Rattle.java_check.proofs.nearest.walk.Given as goal

-- what is kept so far, and what is found in the rest
abbrev pub invariant-loop-done : goal.invariant-loop-done
invariant-loop-done l = record {
  len : length l.near ≡ length l.fn.near;
  kept : (s : ℕ) → s < length l.fn.near
      → first_or (kept_at l.near s) (found_in (program_of l.p) s (length l.p.classes.items + 1 - l._done) l.at)
      ≡ first_or (kept_at l.fn.near s) (found_in (program_of l.p) s (length l.p.classes.items + 1) (Some l.fn.class));
}
