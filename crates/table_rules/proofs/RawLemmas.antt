-- A table that has the entries of each rule without premises, and no others, is the raw one.
use Rattle.std.proofs.Common.{◌≡◌, ℕ, Bool, List, [], length, sym, subst}
use Rattle.std.specs.List.{All}
use Rattle.std.proofs.lemmas.List.Elements.{All-contains, Contains-get_or}
use Rattle.kaba_bits.specs.Sets.{HasWidth}
use Rattle.fact_model.specs.InRange.{InRange}
use Rattle.fact_model.specs.Flowing.{in_point, AreSets}
use Rattle.fact_model.specs.Entries.{Entry, Entails, by_access, by_need, by_this, by_super, by_test, by_array, IsRawEntry, IsRawTable, IsTableSized}
use Rattle.fact_model.specs.declared.facts.Facts.{Facts}
use Rattle.fact_model.specs.declared.facts.AccessInfo.{AccessInfo}
use Rattle.fact_model.specs.declared.facts.SuperInfo.{SuperInfo}
use Rattle.fact_model.specs.declared.sets.PointsTo.{PointsTo}
use Rattle.fact_model.specs.declared.sets.Table.{Table}
use Rattle.fact_model.proofs.RangeLemmas.{site-below, this-below}
use Rattle.table_rules.specs.Marks.{RowMarked, IsRawPair, AreMarks, AreRaw, IsAccessMarked, IsCallMarked, IsSuperMarked, IsTestMarked, AreMarked}

-- what the lists of accesses and of super calls name
pub accesses_raw : (F : Facts) → InRange F → All (λ (x : AccessInfo). IsRawPair F x.row.0 x.column.0) F.accesses.items
accesses_raw F R = λ k d lt. let r = R.accesses k d lt in (r.0, r.1, by_access _ (Contains-get_or F.accesses.items k d lt))

pub supers_raw : (F : Facts) → InRange F → All (λ (x : SuperInfo). IsRawPair F x.row.0 x.column.0) F.supers.items
supers_raw F R = λ k d lt. let r = R.supers k d lt in (r.0, r.1, by_super _ (Contains-get_or F.supers.items k d lt))

module _ (F : Facts) (R : InRange F) (pt : PointsTo) (sets : AreSets F pt) (rows : List (List Bool)) (all : AreMarked F pt.points.items rows) where
  marked : (e : Entry) → Entails F [] e → RowMarked rows e.0 e.1
  marked e (by_access x is) = All-contains (IsAccessMarked rows) F.accesses.items x all.accesses is
  marked e (by_need call o d is holds found) =
      All-contains (IsCallMarked F pt.points.items rows) F.calls.items call all.calls is o (site-below F R (in_point call.receiver o) holds)
      ((sets.points call.receiver o).1 holds) d found
  marked e (by_this v d t) = all.these v (this-below F v d t) d t
  marked e (by_super x is) = All-contains (IsSuperMarked rows) F.supers.items x all.supers is
  marked e (by_test x c is m) = All-contains (IsTestMarked F rows) F.tests.items x all.tests is c m.below m
  marked e (by_array s c lt dim m) = all.arrays s lt dim c m.below m

-- rows of the width of the columns are a table of the facts
pub sized : (F : Facts) (P : ℕ → ℕ → Type 0) (t : Table) → t.width ≡ length F.columns.items → AreMarks F P t.rows.items → IsTableSized F t
sized F P t e are = record { columns = e; rows = are.len; widths = subst (λ w. HasWidth w t.rows.items) (sym e) are.widths }

pub raw_table : (F : Facts) (R : InRange F) (pt : PointsTo) (sets : AreSets F pt) (t : Table) → t.width ≡ length F.columns.items
    → AreRaw F t.rows.items → AreMarked F pt.points.items t.rows.items → IsRawTable F t
raw_table F R pt sets t e are all = record {
  sized = sized F (IsRawEntry F) t e are;
  entries = λ r c. (are.sound r c, marked F R pt sets t.rows.items all (r, c));
}
