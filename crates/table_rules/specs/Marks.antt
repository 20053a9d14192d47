-- Mirror. Tables so far: they have only entries that hold, and what was marked stays.
use Rattle.std.specs.Prelude.{◌≡◌, ℕ, ◌<◌, Bool, true, List, length, All, Some}
use Rattle.kaba_bits.specs.Sets.{bit, row, IsSubset, HasWidth}
use Rattle.kaba_base.specs.declared.ColId.{ColId}
use Rattle.fact_model.specs.Items.{site_at, site_class, site_row, row_this, IsColumn}
use Rattle.fact_model.specs.Classes.{finds}
use Rattle.fact_model.specs.InRange.{InRange}
use Rattle.fact_model.specs.Entries.{IsRawEntry, IsEntry}
use Rattle.fact_model.specs.declared.facts.Facts.{Facts}
use Rattle.fact_model.specs.declared.facts.ColKind.TheVariants.{Is}
use Rattle.fact_model.specs.declared.facts.AccessInfo.{AccessInfo}
use Rattle.fact_model.specs.declared.facts.CallInfo.{CallInfo}
use Rattle.fact_model.specs.declared.facts.SuperInfo.{SuperInfo}
use Rattle.fact_model.specs.declared.facts.TestInfo.{TestInfo}

-- a row has a column
abbrev pub RowMarked : List (List Bool) → ℕ → ℕ → Type 0
RowMarked rows r c = bit (row rows r) c ≡ true

-- rows of columns for the rows of the facts, of whose entries P holds
pub record AreMarks (F : Facts) (P : ℕ → ℕ → Type 0) (rows : List (List Bool)) : Type 0 where
  pub len : length rows ≡ length F.rows.items
  pub widths : HasWidth (length F.columns.items) rows
  pub sound : (r c : ℕ) → RowMarked rows r c → P r c

-- rows whose entries all come from rules without premises
abbrev pub AreRaw : Facts → List (List Bool) → Type 0
AreRaw F rows = AreMarks F (IsRawEntry F) rows

-- the facts are in range, and the rows have only entries that hold
pub record IsBegun (F : Facts) (rows : List (List Bool)) : Type 0 where
  pub facts : InRange F
  pub raw : AreRaw F rows

-- rows with all entries of the rules without premises, and with no entry that does not hold
pub record AreEntries (F : Facts) (rows : List (List Bool)) : Type 0 where
  pub len : length rows ≡ length F.rows.items
  pub widths : HasWidth (length F.columns.items) rows
  pub sound : (r c : ℕ) → RowMarked rows r c → IsEntry F r c
  pub raw : (r c : ℕ) → IsRawEntry F r c → RowMarked rows r c

-- each row has at least what it had
abbrev pub Grow : List (List Bool) → List (List Bool) → Type 0
Grow old new = (r : ℕ) → IsSubset (row old r) (row new r)

-- the rows still have only entries that hold, and what was marked stays
pub record IsMarking (F : Facts) (old new : List (List Bool)) : Type 0 where
  pub raw : AreRaw F new
  pub grows : Grow old new

-- a row and a column with an entry of a rule without premises
abbrev pub IsRawPair : Facts → ℕ → ℕ → Type 0
IsRawPair F r c = (r < length F.rows.items) × (c < length F.columns.items) × IsRawEntry F r c

-- the row of an access has the column of the member that is accessed
abbrev pub IsAccessMarked : List (List Bool) → AccessInfo → Type 0
IsAccessMarked rows x = RowMarked rows x.row.0 x.column.0

-- the row of a super call's `this` has the column of the body that the call runs
abbrev pub IsSuperMarked : List (List Bool) → SuperInfo → Type 0
IsSuperMarked rows x = RowMarked rows x.row.0 x.column.0

-- the row v, where it is a `this`, has the body
abbrev pub IsThisMarked : Facts → List (List Bool) → ℕ → Type 0
IsThisMarked F rows v = (d : ColId) → row_this F v ≡ Some d → RowMarked rows v d.0

-- the site o, where it is in the receiver, has the body found for its class
abbrev pub IsNeedMarked : Facts → List (List Bool) → CallInfo → List (List Bool) → ℕ → Type 0
IsNeedMarked F points call rows o = bit (row points call.receiver) o ≡ true → (d : ℕ) → finds F (site_class F o) call.slot ≡ Some d
    → RowMarked rows (site_row F o) d

-- each site of a call's receiver has the body that the call runs on it
abbrev pub IsCallMarked : Facts → List (List Bool) → List (List Bool) → CallInfo → Type 0
IsCallMarked F points rows call = (o : ℕ) → o < length F.sites.items → IsNeedMarked F points call rows o

-- a row has the column c, where that is the mark of the class
abbrev pub IsMarkMarkedAt : Facts → ℕ → ℕ → List (List Bool) → ℕ → Type 0
IsMarkMarkedAt F r class rows c = IsColumn F Is class c → RowMarked rows r c

-- a row has the mark of a class
abbrev pub IsMarkMarked : Facts → List (List Bool) → ℕ → ℕ → Type 0
IsMarkMarked F rows r class = (c : ℕ) → c < length F.columns.items → IsMarkMarkedAt F r class rows c

-- the row of a cast or `instanceof` has the mark of the tested class
abbrev pub IsTestMarked : Facts → List (List Bool) → TestInfo → Type 0
IsTestMarked F rows x = IsMarkMarked F rows x.target.0 x.class.0

-- the row of an array site has the mark of its base
abbrev pub IsArrayMarked : Facts → List (List Bool) → ℕ → Type 0
IsArrayMarked F rows s = 0 < (site_at F s).dim → IsMarkMarked F rows (site_row F s) (site_class F s)

-- all entries of the rules without premises are there
pub record AreMarked (F : Facts) (points rows : List (List Bool)) : Type 0 where
  pub accesses : All (IsAccessMarked rows) F.accesses.items
  pub calls : All (IsCallMarked F points rows) F.calls.items
  pub these : (v : ℕ) → v < length F.rows.items → IsThisMarked F rows v
  pub supers : All (IsSuperMarked rows) F.supers.items
  pub tests : All (IsTestMarked F rows) F.tests.items
  pub arrays : (s : ℕ) → s < length F.sites.items → IsArrayMarked F rows s
