use Rattle.std.proofs.Common.{ℕ, ◌<◌, slice_index_or}
use Rattle.why_table.specs.Trails.{Follows}
use Rattle.why_table.specs.declared.trail.WhyStep.{WhyStep}
use Rattle.why_table.proofs.check.all_follow.Given as goal

-- the steps before the k-th follow
abbrev pub invariant-loop-k : goal.invariant-loop-k
invariant-loop-k l = (j : ℕ) (d : WhyStep) → j < l.k → Follows l.facts l.steps j (slice_index_or l.steps j d)
