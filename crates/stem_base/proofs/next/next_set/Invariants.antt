use Rattle.std.proofs.Common.{◌≡◌, ◌≤◌, length}
use Rattle.stem_base.specs.Lectic.{IsStartBelow, FailFrom}
use Rattle.stem_base.specs.Base.{all_sides}
use Rattle.stem_base.proofs.next.next_set.Given as goal

abbrev pub invariant-loop-i : goal.invariant-loop-i
invariant-loop-i l = record {
  width : length l.x ≡ length l.a;
  within : l.i ≤ length l.a;
  start : IsStartBelow l.a l.i l.start;
  fail : FailFrom (length l.a) l.a (all_sides l.base.items) l.i;
}

abbrev pub decreases-loop-i : goal.decreases-loop-i
decreases-loop-i l = l.i
