-- Mirror. What is known of a program, of its facts and its hierarchy, and of a program that rebuilds it: what the
-- look-ups in that program rest on.
use Rattle.std.specs.Prelude.{◌≡◌, ℕ, ◌<◌, true, length, Some}
use Rattle.kaba_base.specs.declared.NodeId.{NodeId}
use Rattle.java_core.specs.Programs.{Plain}
use Rattle.java_core.specs.Classes.{slot_of_method}
use Rattle.java_core.specs.Formed.{IsFormed}
use Rattle.kaba_order.specs.Orders.{IsPartialOrder, is_le, is_live}
use Rattle.fact_model.specs.Items.{column_kind, column_slot}
use Rattle.fact_model.specs.declared.facts.Facts.{Facts}
use Rattle.fact_model.specs.declared.facts.ColKind.TheVariants.{Fld}
use Rattle.hier_model.specs.Hierarchies.{Hierarchy, place_of_column, member_name, is_offered, is_method, SlotsHaveOneName}
use Rattle.flow_rules.specs.declared.items.ColumnItem.{ColumnItem}
use Rattle.flow_rules.specs.declared.items.ColumnItem.TheVariants as column
use Rattle.flow_rules.specs.Facts.{numbers, kind_of, slot_in}
use Rattle.rebuild_model.specs.Members.{StandsAt}
use Rattle.rebuild_model.specs.Renaming.{Places, Renaming, renaming_of}
use Rattle.rebuild_model.specs.Rebuilds.{Rebuilds}

-- the columns of the facts are those of the program's items, one for each
pub record AreItemColumns (P : Plain) (F : Facts) : Type 0 where
  pub below : (i : ColumnItem) (c : ℕ) → (numbers P).column i ≡ Some c → c < length F.columns.items
  pub kind : (i : ColumnItem) (c : ℕ) → (numbers P).column i ≡ Some c → column_kind F c ≡ kind_of i
  pub slot : (i : ColumnItem) (c : ℕ) → (numbers P).column i ≡ Some c → column_slot F c ≡ slot_in P i
  pub one : (i j : ColumnItem) (c : ℕ) → (numbers P).column i ≡ Some c → (numbers P).column j ≡ Some c → i ≡ j
  pub item : (c : ℕ) → c < length F.columns.items → (i : ColumnItem) × ((numbers P).column i ≡ Some c)
  -- what has a column as a method has a slot, and what has a slot a declaration's column
  pub slotted : (i : ColumnItem) (c : ℕ) → (numbers P).column i ≡ Some c → is_method (kind_of i) ≡ true → (s : ℕ) × (slot_in P i ≡ Some s)
  pub declared : (m s : ℕ) → slot_of_method P m ≡ Some s → (c : ℕ) × ((numbers P).column (column.Dcl m) ≡ Some c)

-- no node offers two fields, or two slots, of one name
pub record AreNamesApart (F : Facts) (H : Hierarchy) : Type 0 where
  pub fields : (n c d : ℕ) → column_kind F c ≡ Fld → column_kind F d ≡ Fld → is_offered H n c ≡ true → is_offered H n d ≡ true
      → member_name H c ≡ member_name H d → c ≡ d
  pub slots : (n c d x y : ℕ) → is_method (column_kind F c) ≡ true → is_method (column_kind F d) ≡ true → column_slot F c ≡ Some x → column_slot F d ≡ Some y
      → is_offered H n c ≡ true → is_offered H n d ≡ true → member_name H c ≡ member_name H d → x ≡ y

-- P is the old program, and W the new one
pub record KnownOfBoth (P : Plain) (F : Facts) (H : Hierarchy) (W : Plain) : Type 0 where
  pub old : IsFormed P
  pub new : IsFormed W
  pub rebuilt : Rebuilds P F H W
  pub columns : AreItemColumns P F
  pub order : IsPartialOrder H.order
  pub placed : (c : ℕ) (p : NodeId) → place_of_column H c ≡ Some p → is_live H.order p.0 ≡ true
  pub names : SlotsHaveOneName F H
  pub apart : AreNamesApart F H

-- where the members of the old program are in the new one, and what they are called there
pub record BothSides : Type 0 where
  pub places : Places
  pub renaming : Renaming

module _ {P : Plain} {F : Facts} {H : Hierarchy} {W : Plain} (K : KnownOfBoth P F H W) where
  -- a node offers the column of an item: it stands there or above
  pub record Offers (n : ℕ) (i : ColumnItem) : Type 0 where
    pub node : ℕ
    pub stands : StandsAt P F H W K.rebuilt.places i node
    pub above : is_le H.order n node ≡ true

  -- the places and the renaming that a rebuilt program has
  abbrev pub sides : BothSides
  sides = record { places = K.rebuilt.places; renaming = renaming_of P H K.rebuilt.places }
