use Rattle.std.proofs.Common.{◌≤◌, ◌-◌, length, map}
use Rattle.kaba_bits.specs.Sets.{ListsBelow}
use Rattle.fact_model.specs.Concepts.{RowStands}
use Rattle.concept_build.proofs.stands.rows_at.Given as goal

abbrev pub invariant-loop-r : goal.invariant-loop-r
invariant-loop-r l = record {
  at : l.at ≤ length l.table;
  listed : ListsBelow (RowStands l.table l.item.1) l.at (map (λ x. x.0) l.rows.items);
}

abbrev pub decreases-loop-r : goal.decreases-loop-r
decreases-loop-r l = length l.table - l.at
