use Rattle.std.proofs.Common.{◌≡◌, ◌-◌, length}
use Rattle.stem_base.specs.Base.{common, all_sides}
use Rattle.stem_base.specs.Lectic.{IsKeptSet}
use Rattle.stem_base.specs.Found.{AreBefore, lectic_rank, power_of_two}
use Rattle.stem_base.proofs.stems.found_stems.Given as goal

abbrev pub invariant-scan : goal.invariant-scan
invariant-scan l = record {
  width : length l.x ≡ l.width;
  kept : IsKeptSet l.width (common l.table l.width) l.a;
  before : AreBefore l.width (common l.table l.width) l.a (all_sides l.base.items);
}

abbrev pub decreases-scan : goal.decreases-scan
decreases-scan l = power_of_two l.width - lectic_rank l.a
