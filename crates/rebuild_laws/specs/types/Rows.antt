-- Believed. When a program that rebuilds another offers each row what it has in the table: in the type of the row's
-- node.
use Rattle.std.specs.Prelude.{◌≡◌, ℕ, true, Some, slice_get}
use Rattle.java_core.specs.Programs.{Plain, PlainField, PlainMethod}
use Rattle.java_core.specs.Classes.{IsSubclass, member_field, slot_of}
use Rattle.java_core.specs.Types.{signature_of_slot}
use Rattle.kaba_base.specs.declared.ClassId.{ClassId}
use Rattle.kaba_bits.specs.Sets.{bit, row}
use Rattle.fact_model.specs.declared.facts.Facts.{Facts}
use Rattle.hier_model.specs.Hierarchies.{Hierarchy, place_of_row}
use Rattle.flow_rules.specs.declared.items.RowItem.TheVariants as item
use Rattle.flow_rules.specs.declared.items.ColumnItem.{ColumnItem}
use Rattle.flow_rules.specs.declared.items.ColumnItem.TheVariants as column
use Rattle.flow_rules.specs.Facts.{numbers}
use Rattle.rebuild_model.specs.Renaming.{Places, renaming_of, retyped_if}
use Rattle.rebuild_model.specs.Makes.{slot_types, HasOldSlot}
use Rattle.rebuild_model.specs.Members.{StandsAt, IsField, IsBody}

module _ (P : Plain) (F : Facts) (H : Hierarchy) (W : Plain) (T : Places) where
  -- the type of a row's node
  abbrev type_of_row : ℕ → ℕ
  type_of_row r = T.type_of (place_of_row H r)

  -- a row has the column of an item
  abbrev Has : ℕ → ColumnItem → Type 0
  Has r i = (c : ℕ) × ((numbers P).column i ≡ Some c) × (bit (row H.table r) c ≡ true)

  -- the field is found there under its name
  pub record OffersField (r f : ℕ) : Type 0 where
    pub number : ℕ
    pub field : PlainField
    pub found : member_field W (type_of_row r) ((renaming_of P H T).field_name f) ≡ Some number
    pub stands : slice_get W.fields number ≡ Some field
    pub is : IsField P F H W T f field

  -- a slot is found there under the name of the method, with the types of the rows of its old slot
  pub record OffersMethod (r m : ℕ) : Type 0 where
    pub number : ℕ
    pub found : slot_of W (type_of_row r) ((renaming_of P H T).method_name m) ≡ Some number
    pub was : HasOldSlot P m
    pub types : signature_of_slot W number
        ≡ Some (record {
          params = slot_types (renaming_of P H T) was.slot was.signature.params;
          result =
              retyped_if ((renaming_of P H T).row_type (item.Return was.slot)) was.signature.result;
        })

  -- the body stands there or above
  pub record OffersBody (r m : ℕ) : Type 0 where
    pub number : ℕ
    pub method : PlainMethod
    pub stands : slice_get W.methods number ≡ Some method
    pub is : IsBody P F H W T m method
    pub above : IsSubclass W (type_of_row r) method.owner

  -- the mark's type is there or above
  pub record OffersMark (r : ℕ) (k : ClassId) : Type 0 where
    pub node : ℕ
    pub stands : StandsAt P F H W T (column.Is k) node
    pub above : IsSubclass W (type_of_row r) (T.type_of node)

  -- each row, with all its columns
  pub record OffersRows : Type 0 where
    pub fields : (r f : ℕ) → Has r (column.Fld f) → OffersField r f
    pub declarations : (r m : ℕ) → Has r (column.Dcl m) → OffersMethod r m
    pub bodies : (r m : ℕ) → Has r (column.Def m) → OffersBody r m
    pub marks : (r : ℕ) (k : ClassId) → Has r (column.Is k) → OffersMark r k
