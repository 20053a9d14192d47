-- Believed. A class hierarchy over the rows and columns of a table, its places, and what is offered at a node.
use Rattle.std.specs.Prelude.{◌≡◌, ℕ, suc, zero, ◌<◌, ◌↔◌, ◌==◌, ◌&&◌, ◌||◌, Bool, true, false, List, [], length, Option, Some, None, slice_index_or, IfSome}
use Rattle.kaba_base.specs.declared.NodeId.{NodeId}
use Rattle.kaba_base.specs.declared.ColId.{ColId}
use Rattle.kaba_base.specs.declared.ClassId.{ClassId}
use Rattle.kaba_bits.specs.Sets.{bit, row, HasWidth}
use Rattle.kaba_order.specs.Orders.{Ordered, is_le, is_live, IsPartialOrder}
use Rattle.fact_model.specs.Items.{site_at, site_row, row_this, column_kind, column_slot}
use Rattle.fact_model.specs.Classes.{is_slot}
use Rattle.fact_model.specs.Entries.{IsEntry}
use Rattle.fact_model.specs.InRange.{IsClass}
use Rattle.fact_model.specs.declared.facts.Facts.{Facts}
use Rattle.fact_model.specs.declared.facts.ColKind.{ColKind}
use Rattle.fact_model.specs.declared.facts.ColKind.TheVariants.{Fld, Dcl, Def, Is}

-- the order of the nodes, the node of each column and of each row, the names of types and members, the origins, and the table of the start
pub record Hierarchy : Type 0 where
  pub order : Ordered
  pub columns : List (Option NodeId)
  pub rows : List NodeId
  pub types : List (List ℕ)
  pub members : List (List ℕ)
  pub origins : List (Option ClassId)
  pub table : List (List Bool)

-- the hierarchy of these parts
abbrev pub hierarchy_of : Ordered → List (Option NodeId) → List NodeId → List (List ℕ) → List (List ℕ) → List (Option ClassId) → List (List Bool) → Hierarchy
hierarchy_of order columns rows types members origins table =
    record { order = order; columns = columns; rows = rows; types = types; members = members; origins = origins; table = table }

-- the id of a node by its number
abbrev pub node : ℕ → NodeId
node n = record { 0 = n }

-- the node where a column stands; a dead one stands nowhere
abbrev pub place_of_column : Hierarchy → ℕ → Option NodeId
place_of_column H c = slice_index_or H.columns c None

-- the node where a row stands
abbrev pub place_of_row : Hierarchy → ℕ → ℕ
place_of_row H r = (slice_index_or H.rows r (node 0)).0

-- the name of the type of a node
abbrev pub type_name : Hierarchy → ℕ → List ℕ
type_name H n = slice_index_or H.types n []

-- the name that the field or method of a column has in the hierarchy
abbrev pub member_name : Hierarchy → ℕ → List ℕ
member_name H c = slice_index_or H.members c []

-- the class from which a node comes, if it is one
abbrev pub origin_of : Hierarchy → ℕ → Option ClassId
origin_of H n = slice_index_or H.origins n None

-- whether a place is the node n
abbrev pub is_at : ℕ → Option NodeId → Bool
is_at n None = false
is_at n (Some p) = p.0 == n

-- whether a place is the node n or above it
abbrev pub is_above : Ordered → ℕ → Option NodeId → Bool
is_above o n None = false
is_above o n (Some p) = is_le o n p.0

-- whether a column stands at a node
abbrev pub stands_at : Hierarchy → ℕ → ℕ → Bool
stands_at H n c = is_at n (place_of_column H c)

-- whether a node offers a column: it stands there or above
abbrev pub is_offered : Hierarchy → ℕ → ℕ → Bool
is_offered H n c = is_above H.order n (place_of_column H c)

-- whether some number below n passes a test
abbrev pub any_below : ℕ → (ℕ → Bool) → Bool
any_below zero p = false
any_below (suc n) p = any_below n p || p n

-- whether a node offers a slot: a declaration or a body of it
abbrev pub offers_slot : Facts → Hierarchy → ℕ → ℕ → Bool
offers_slot F H n x = any_below (length F.columns.items) (λ c. is_slot (column_slot F c) x && is_offered H n c)

-- a column that only a class can have: a field or a body
abbrev pub is_of_class : ColKind → Bool
is_of_class Fld = true
is_of_class Def = true
is_of_class Dcl = false
is_of_class Is = false

-- whether a node is at or below one where a field or a body stands
abbrev pub has_class_member : Facts → Hierarchy → ℕ → Bool
has_class_member F H n = any_below (length F.columns.items) (λ c. is_of_class (column_kind F c) && is_offered H n c)

-- whether a node is at or below one where an object is created
abbrev pub has_object : Facts → Hierarchy → ℕ → Bool
has_object F H n = any_below (length F.sites.items) (λ s. ((site_at F s).dim == 0) && is_le H.order n (place_of_row H (site_row F s)))

-- a class node: at or below a node where a field, a body or an object site stands
abbrev pub is_class_node : Facts → Hierarchy → ℕ → Bool
is_class_node F H n = has_class_member F H n || has_object F H n

-- the nodes are ordered, and each list has its length
pub record IsHierarchySized (F : Facts) (H : Hierarchy) : Type 0 where
  pub order : IsPartialOrder H.order
  pub types : length H.types ≡ length H.order.live
  pub origins : length H.origins ≡ length H.order.live
  pub columns : length H.columns ≡ length F.columns.items
  pub members : length H.members ≡ length F.columns.items
  pub rows : length H.rows ≡ length F.rows.items

-- columns and rows stand at live nodes, and `this` of a method where its body does
pub record ArePlaced (F : Facts) (H : Hierarchy) : Type 0 where
  pub columns : (c : ℕ) (p : NodeId) → place_of_column H c ≡ Some p → is_live H.order p.0 ≡ true
  pub rows : (r : ℕ) → r < length F.rows.items → is_live H.order (place_of_row H r) ≡ true
  pub these : (r : ℕ) (d : ColId) → row_this F r ≡ Some d → place_of_column H d.0 ≡ Some (node (place_of_row H r))

-- a column of a method: its declaration or its body
abbrev pub is_method : ColKind → Bool
is_method Dcl = true
is_method Def = true
is_method Fld = false
is_method Is = false

-- all columns of one slot have one name
abbrev pub SlotsHaveOneName : Facts → Hierarchy → Type 0
SlotsHaveOneName F H = (c d x : ℕ) → is_method (column_kind F c) ≡ true → is_method (column_kind F d) ≡ true → column_slot F c ≡ Some x
    → column_slot F d ≡ Some x → member_name H c ≡ member_name H d

-- the table is the closed one of the facts
pub record KeepsTable (F : Facts) (table : List (List Bool)) : Type 0 where
  pub rows : length table ≡ length F.rows.items
  pub widths : HasWidth (length F.columns.items) table
  pub entries : (r c : ℕ) → (bit (row table r) c ≡ true) ↔ IsEntry F r c

-- a hierarchy over the rows and columns of the facts
pub record IsHierarchyOf (F : Facts) (H : Hierarchy) : Type 0 where
  pub sized : IsHierarchySized F H
  pub placed : ArePlaced F H
  pub names : SlotsHaveOneName F H
  pub origins : (n : ℕ) → is_live H.order n ≡ true → IfSome (origin_of H n) (IsClass F)
  pub table : KeepsTable F H.table
