-- Believed. What a number of the facts names. A number past the end of its list names nothing of interest: facts are in
-- range.
use Rattle.std.specs.Prelude.{◌≡◌, ℕ, ◌<◌, ◌==◌, Bool, false, [], length, Option, None, slice_index_or}
use Rattle.std.specs.Option.{option_map_or}
use Rattle.kaba_base.specs.declared.ColId.{ColId}
use Rattle.fact_model.specs.declared.facts.Facts.{Facts}
use Rattle.fact_model.specs.declared.facts.RowInfo.{RowInfo}
use Rattle.fact_model.specs.declared.facts.ColumnInfo.{ColumnInfo}
use Rattle.fact_model.specs.declared.facts.SiteInfo.{SiteInfo}
use Rattle.fact_model.specs.declared.facts.CellInfo.{CellInfo}
use Rattle.fact_model.specs.declared.facts.ColKind.{ColKind}
use Rattle.fact_model.specs.declared.facts.ColKind.TheVariants.{Is}

-- the creation site of a number
abbrev pub site_at : Facts → ℕ → SiteInfo
site_at F s = slice_index_or F.sites.items s (record { row = record { 0 = 0 }; class = record { 0 = 0 }; dim = 0 })

-- the cell of a number: a field, or the elements, of what a site creates
abbrev pub cell_at : Facts → ℕ → CellInfo
cell_at F c = slice_index_or F.cells.items c (record { site = record { 0 = 0 }; column = None; row = record { 0 = 0 } })

-- the row of a number
abbrev pub row_at : Facts → ℕ → RowInfo
row_at F r = slice_index_or F.rows.items r (record { label = []; class = record { 0 = 0 }; dim = 0; site = None; this_of = None })

-- the column of a number
abbrev pub column_at : Facts → ℕ → ColumnInfo
column_at F c = slice_index_or F.columns.items c (record { kind = Is; class = record { 0 = 0 }; slot = None; name = []; label = [] })

-- the row of a point
abbrev pub point_row : Facts → ℕ → ℕ
point_row F p = (slice_index_or F.points.items p (record { 0 = 0 })).0

-- the class of a site: the class created, or the base of the array
abbrev pub site_class : Facts → ℕ → ℕ
site_class F s = (site_at F s).class.0

-- the row of a site's creation
abbrev pub site_row : Facts → ℕ → ℕ
site_row F s = (site_at F s).row.0

-- the class or interface that a row types
abbrev pub row_class : Facts → ℕ → ℕ
row_class F r = (row_at F r).class.0

-- the Def column of the method whose `this` a row is
abbrev pub row_this : Facts → ℕ → Option ColId
row_this F r = (row_at F r).this_of

-- whether a row is that of an object site
abbrev pub is_object_row : Facts → ℕ → Bool
is_object_row F r = option_map_or (λ s. (site_at F s.0).dim == 0) (row_at F r).site false

-- the class or interface that a column belongs to
abbrev pub column_class : Facts → ℕ → ℕ
column_class F c = (column_at F c).class.0

-- what a column stands for: a field, a declaration, a body or the mark of a type
abbrev pub column_kind : Facts → ℕ → ColKind
column_kind F c = (column_at F c).kind

-- the slot of the method that a column stands for; a field and a mark have none
abbrev pub column_slot : Facts → ℕ → Option ℕ
column_slot F c = (column_at F c).slot

-- c is a column of this kind, of a class
pub record IsColumn (F : Facts) (kind : ColKind) (class c : ℕ) : Type 0 where
  pub below : c < length F.columns.items
  pub kind_is : column_kind F c ≡ kind
  pub class_is : column_class F c ≡ class
