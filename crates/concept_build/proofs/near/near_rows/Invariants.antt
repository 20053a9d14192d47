use Rattle.std.proofs.Common.{◌≡◌, ◌≤◌, ◌-◌, length}
use Rattle.concept_build.proofs.NearLemmas.{SoFar}
use Rattle.concept_build.proofs.near.near_rows.Given as goal

abbrev pub invariant-loop-p : goal.invariant-loop-p
invariant-loop-p l = record {
  len : length l.left ≡ length l.counts.examples.items;
  at : l.at ≤ length l.counts.examples.items;
  found : SoFar l.table l.item.0 l.item.1 l.counts.examples.items l.at l.near.items l.wide.items l.left;
}

abbrev pub decreases-loop-p : goal.decreases-loop-p
decreases-loop-p l = length l.counts.examples.items - l.at
