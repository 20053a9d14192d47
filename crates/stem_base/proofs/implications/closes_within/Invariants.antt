use Rattle.std.proofs.Common.{◌≡◌, ◌-◌, length}
use Rattle.kaba_bits.specs.Sets.{size, IsSubset}
use Rattle.stem_base.specs.Base.{IsClosedUnder, all_sides}
use Rattle.stem_base.specs.Lectic.{AddsNoneBelow}
use Rattle.stem_base.specs.Saturate.{IsWithinClosed}
use Rattle.stem_base.proofs.implications.closes_within.Given as goal

abbrev pub invariant-loop-set : goal.invariant-loop-set
invariant-loop-set l = record {
  width : length l.set ≡ length l.fn.set;
  holds : IsSubset l.fn.set l.set;
  least : IsWithinClosed (IsClosedUnder (all_sides l.base.items)) l.fn.set l.set;
  within : AddsNoneBelow l.a l.i l.set;
}

abbrev pub decreases-loop-set : goal.decreases-loop-set
decreases-loop-set l = length l.set - size l.set
