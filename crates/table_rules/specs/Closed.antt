-- Mirror. Tables that are closed under one rule, or under all.
use Rattle.std.specs.Prelude.{◌≡◌, ℕ, ◌<◌, Bool, true, List, length, All, Some}
use Rattle.std.specs.Bool.{OnFalse}
use Rattle.kaba_bits.specs.Sets.{bit, row, IsSubset, IsStep}
use Rattle.kaba_base.specs.declared.ColId.{ColId}
use Rattle.fact_model.specs.Items.{site_row, row_this}
use Rattle.fact_model.specs.Entries.{IsEntry, IsDeclaredBy, Hides}
use Rattle.fact_model.specs.declared.facts.Facts.{Facts}
use Rattle.fact_model.specs.declared.facts.TieInfo.{TieInfo}
use Rattle.table_rules.specs.Marks.{RowMarked, AreEntries}

-- each column that the row v must have, the row r must have
abbrev pub RowFlows : Facts → ℕ → ℕ → Type 0
RowFlows F v r = (c : ℕ) → IsEntry F v c → IsEntry F r c

-- each row that must have the column d must have the column c
abbrev pub ColumnFlows : Facts → ℕ → ℕ → Type 0
ColumnFlows F d c = (r : ℕ) → IsEntry F r d → IsEntry F r c

-- the lower row of a tie has all columns of the upper
abbrev pub IsTieClosed : List (List Bool) → TieInfo → Type 0
IsTieClosed rows x = IsSubset (row rows x.upper.0) (row rows x.lower.0)

-- the row of the site o, where the set of the row v has it, has all columns of v
abbrev pub IsSiteClosedAt : Facts → List (List Bool) → ℕ → List (List Bool) → ℕ → Type 0
IsSiteClosedAt F sets v rows o = bit (row sets v) o ≡ true → IsSubset (row rows v) (row rows (site_row F o))

-- each site in the set of a row has all columns of the row
abbrev pub IsSiteClosed : Facts → List (List Bool) → List (List Bool) → ℕ → Type 0
IsSiteClosed F sets rows v = (o : ℕ) → o < length F.sites.items → IsSiteClosedAt F sets v rows o

-- the table is closed under the rules with premises
pub record IsTableClosed (F : Facts) (sets rows : List (List Bool)) : Type 0 where
  pub declared : (r d c : ℕ) → c < length F.columns.items → IsDeclaredBy F d c → RowMarked rows r d → RowMarked rows r c
  pub bodies : (r v c : ℕ) (d : ColId) → row_this F v ≡ Some d → RowMarked rows r d.0 → RowMarked rows v c → RowMarked rows r c
  pub ties : All (IsTieClosed rows) F.ties.items
  pub sites : (v : ℕ) → v < length F.rows.items → IsSiteClosed F sets rows v
  pub hidden : (q r d c : ℕ) → Hides F d c → RowMarked rows q d → RowMarked rows q c → RowMarked rows r d → RowMarked rows r c

-- after a step the rows have only entries that hold; where it says that nothing was new, they are as they were, and P holds
pub record Gains (F : Facts) (old new : List (List Bool)) (grew : Bool) (P : Type 0) : Type 0 where
  pub rows : AreEntries F new
  pub step : IsStep old new grew
  pub closed : OnFalse grew P
