use Rattle.std.proofs.Common.{◌≤◌, length}
use Rattle.stem_base.specs.Base.{all_sides}
use Rattle.stem_base.specs.Saturate.{IsRoundDown}
use Rattle.stem_base.proofs.implications.round_within.Given as goal

abbrev pub invariant-loop-k : goal.invariant-loop-k
invariant-loop-k l = record {
  within : l.k ≤ length l.base;
  round : IsRoundDown (all_sides l.base) l.k l.fn.set l.set l.grew;
}

abbrev pub decreases-loop-k : goal.decreases-loop-k
decreases-loop-k l = l.k
