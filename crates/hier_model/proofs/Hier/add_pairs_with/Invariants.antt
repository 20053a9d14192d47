use Rattle.std.proofs.Common.{◌≡◌, ◌++◌, ◌-◌, ◌≤◌, length}
use Rattle.hier_model.specs.Differences.{each_below, pair_change}
use Rattle.hier_model.proofs.Hier.add_pairs_with.Given as goal

abbrev pub invariant-pairs : goal.invariant-pairs
invariant-pairs l = record {
  below : l.at ≤ length l.others;
  listed : l.changes.items ≡ l.fn.changes.items ++ each_below l.at (pair_change l.self l.newer l.a.0);
}

abbrev pub decreases-pairs : goal.decreases-pairs
decreases-pairs l = length l.others - l.at
