use Rattle.std.proofs.Common.{◌≤◌, ◌-◌, map}
use Rattle.kaba_bits.specs.Sets.{ListsBelow}
use Rattle.fact_model.specs.Concepts.{ColumnStands}
use Rattle.concept_build.proofs.stands.columns_at.Given as goal

abbrev pub invariant-loop-c : goal.invariant-loop-c
invariant-loop-c l = record {
  at : l.at ≤ l.width;
  listed : ListsBelow (ColumnStands l.table l.item.0) l.at (map (λ x. x.0) l.columns.items);
}

abbrev pub decreases-loop-c : goal.decreases-loop-c
decreases-loop-c l = l.width - l.at
