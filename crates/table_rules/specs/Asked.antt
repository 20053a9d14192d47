-- Mirror. What a column asks of the rows that have it: further columns, those of a `this` among them.
use Rattle.std.specs.Prelude.{◌≡◌, ℕ, ◌%◌, ◌<◌, ◌⊎◌, ◌&&◌, not, Bool, true, List, length, Contains, Option, Some, None}
use Rattle.std.specs.declared.vec.Vec.{Vec}
use Rattle.std.specs.declared.alloc.Global.{Global}
use Rattle.kaba_bits.specs.Sets.{bit, row, IsSubset, HasWidth}
use Rattle.kaba_base.specs.declared.ColId.{ColId}
use Rattle.fact_model.specs.Items.{column_kind, column_slot, row_this}
use Rattle.fact_model.specs.Entries.{IsDeclaredBy, Hides}
use Rattle.fact_model.specs.declared.facts.Facts.{Facts}
use Rattle.fact_model.specs.declared.facts.ColKind.TheVariants.{Dcl, Def}
use Rattle.points_to.specs.Listed.{numbers_at}
use Rattle.table_rules.specs.Marks.{RowMarked, Grow, AreEntries}
use Rattle.table_rules.specs.Closed.{ColumnFlows}
use Rattle.table_rules.specs.declared.asked.Columns.{Columns}
use Rattle.table_rules.specs.declared.index.Index.{Index}

-- for each column a set of columns, of which P holds
pub record AreColumnPairs (F : Facts) (P : ℕ → ℕ → Type 0) (sets : List (List Bool)) : Type 0 where
  pub len : length sets ≡ length F.columns.items
  pub widths : HasWidth (length F.columns.items) sets
  pub sound : (d c : ℕ) → RowMarked sets d c → P d c

-- such sets after a step, in which what was there stays
pub record IsNoting (F : Facts) (P : ℕ → ℕ → Type 0) (old new : List (List Bool)) : Type 0 where
  pub pairs : AreColumnPairs F P new
  pub grows : Grow old new

-- the set of each column has each column of which P holds
abbrev pub HaveAllOf : Facts → (ℕ → ℕ → Type 0) → List (List Bool) → Type 0
HaveAllOf F P sets = (d c : ℕ) → d < length F.columns.items → c < length F.columns.items → P d c → RowMarked sets d c

-- for each column some that the rows with it must have, and some that it hides
pub record AreRuleColumns (F : Facts) (x : Columns) : Type 0 where
  pub asked : AreColumnPairs F (ColumnFlows F) x.asked.items
  pub hidden : AreColumnPairs F (Hides F) x.hidden.items

-- the same after a step, in which what was there stays
pub record IsColumnStep (F : Facts) (old new : Columns) : Type 0 where
  pub are : AreRuleColumns F new
  pub asked : Grow old.asked.items new.asked.items
  pub hidden : Grow old.hidden.items new.hidden.items

-- for each column columns that the rows with it must have, the declaration of a body among them
pub record AreAsked (F : Facts) (asked : List (List Bool)) : Type 0 where
  pub pairs : AreColumnPairs F (ColumnFlows F) asked
  pub declared : HaveAllOf F (IsDeclaredBy F) asked

-- for each column those that it hides
pub record AreHidden (F : Facts) (hidden : List (List Bool)) : Type 0 where
  pub pairs : AreColumnPairs F (Hides F) hidden
  pub all : HaveAllOf F (Hides F) hidden

-- the pair is in the sets, where it should be
pub record IsNoted (F : Facts) (asked hidden : List (List Bool)) (d c : ℕ) : Type 0 where
  pub by_body : IsDeclaredBy F d c → RowMarked asked d c
  pub by_hiding : Hides F d c → RowMarked hidden d c

-- where the columns of a slot are listed, of n lists
abbrev pub place_of : ℕ → Option ℕ → ℕ
place_of n None = 0
place_of n (Some x) = x % n

-- a column of a method's declaration or body
abbrev pub IsMethodColumn : Facts → ℕ → Type 0
IsMethodColumn F c = (column_kind F c ≡ Def) ⊎ (column_kind F c ≡ Dcl)

-- each of the first n columns that is a method's is listed by its slot
abbrev pub HaveMethods : Facts → List (Vec ℕ Global) → ℕ → Type 0
HaveMethods F lists n = (c : ℕ) → c < n → IsMethodColumn F c → Contains (numbers_at lists (place_of (length lists) (column_slot F c))) c

-- a column of the row r that is not in a set
abbrev pub is_beyond : List Bool → List (List Bool) → ℕ → ℕ → Bool
is_beyond plain rows r d = bit (row rows r) d && not (bit plain d)

-- a set of columns that hide none
pub record IsPlain (F : Facts) (plain : List Bool) : Type 0 where
  pub width : length plain ≡ length F.columns.items
  pub none : (d c : ℕ) → bit plain d ≡ true → c < length F.columns.items → Hides F d c → ⊥

-- for each column those that it hides, and a set of columns that hide none
pub record IsHidingIndex (F : Facts) (index : Index) : Type 0 where
  pub hidden : AreHidden F index.hidden.items
  pub plain : IsPlain F index.plain

-- what the row q has, and the column d hides, is asked for
abbrev pub IsMetAt : Facts → List (List Bool) → List (List Bool) → ℕ → ℕ → Type 0
IsMetAt F rows asked q d = RowMarked rows q d → (c : ℕ) → Hides F d c → RowMarked rows q c → RowMarked asked d c

-- what the row q has, and one of its columns hides, is asked for by that column
abbrev pub IsHidingMet : Facts → List (List Bool) → List (List Bool) → ℕ → Type 0
IsHidingMet F rows asked q = (d : ℕ) → IsMetAt F rows asked q d

-- what the row v has, where it is a `this`, is asked for by its body
abbrev pub IsThisAsked : Facts → List (List Bool) → List (List Bool) → ℕ → Type 0
IsThisAsked F rows asked v = (d : ColId) → row_this F v ≡ Some d → IsSubset (row rows v) (row asked d.0)

-- what the row q has is asked for, where it is a `this` or its columns hide that
pub record IsRowAsked (F : Facts) (rows asked : List (List Bool)) (q : ℕ) : Type 0 where
  pub met : IsHidingMet F rows asked q
  pub this : IsThisAsked F rows asked q

-- the row r has what its column d asks for
abbrev pub IsClosedAt : List (List Bool) → ℕ → List (List Bool) → ℕ → Type 0
IsClosedAt asked r rows d = RowMarked rows r d → IsSubset (row asked d) (row rows r)

-- the row r has what its columns ask for
abbrev pub IsRowClosed : List (List Bool) → List (List Bool) → ℕ → Type 0
IsRowClosed asked rows r = (d : ℕ) → IsClosedAt asked r rows d

-- a table so far, what its columns are known to ask for, and a set of their width
pub record AreOpen (F : Facts) (asked : List (List Bool)) (both : List Bool) (rows : List (List Bool)) : Type 0 where
  pub flows : AreAsked F asked
  pub width : length both ≡ length F.columns.items
  pub entries : AreEntries F rows
