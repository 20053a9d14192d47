use Rattle.std.proofs.Common.{◌≡◌, ◌-◌, length}
use Rattle.kaba_bits.specs.Sets.{size, IsSubset}
use Rattle.stem_base.specs.Base.{IsClosedUnder, all_sides}
use Rattle.stem_base.specs.Saturate.{IsWithinClosed}
use Rattle.stem_base.proofs.implications.saturate.Given as goal

abbrev pub invariant-loop : goal.invariant-loop
invariant-loop l = record {
  width : length l.set ≡ length l.fn.set;
  holds : IsSubset l.fn.set l.set;
  least : IsWithinClosed (IsClosedUnder (all_sides l.base.items)) l.fn.set l.set;
}

abbrev pub decreases-loop : goal.decreases-loop
decreases-loop l = length l.set - size l.set
