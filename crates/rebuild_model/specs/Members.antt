-- Believed. What the members of the new program are: the fields, bodies, heads and fillers of its nodes' types, and the
-- static members of its holders.
use Rattle.std.specs.Prelude.{◌≡◌, ℕ, ◌&&◌, ◌||◌, ◌==◌, Bool, true, false, not, List, [], ◌∷◌, length, Some, None, slice_get}
use Rattle.std.specs.Option.{is_some}
use Rattle.kaba_base.specs.declared.NodeId.{NodeId}
use Rattle.java_core.specs.declared.Ty.{Ty}
use Rattle.java_core.specs.Trees.{Sts}
use Rattle.java_core.specs.Programs.{Plain, PlainField, PlainLocal, PlainMethod, PlainSlot}
use Rattle.java_core.specs.Types.{types_of, env_of}
use Rattle.kaba_order.specs.Orders.{is_live}
use Rattle.fact_model.specs.Items.{site_at, site_row, column_kind, column_slot}
use Rattle.fact_model.specs.Classes.{is_def, is_slot}
use Rattle.fact_model.specs.declared.facts.Facts.{Facts}
use Rattle.hier_model.specs.Hierarchies.{Hierarchy, place_of_column, place_of_row, is_offered, offers_slot, any_below, is_class_node}
use Rattle.flow_rules.specs.declared.items.RowItem.TheVariants as row
use Rattle.flow_rules.specs.declared.items.ColumnItem.{ColumnItem}
use Rattle.flow_rules.specs.declared.items.ColumnItem.TheVariants as column
use Rattle.flow_rules.specs.Ordered.{each}
use Rattle.flow_rules.specs.Operands.{variable_row, result_in}
use Rattle.flow_rules.specs.Facts.{numbers}
use Rattle.rebuild_model.specs.Renaming.{Places, Renaming, renaming_of, retyped, retyped_if}
use Rattle.rebuild_model.specs.Makes.{slot_types, HasOldSlot}
use Rattle.rebuild_model.specs.Matches.{IsStaticField, IsStaticMethod, MatchesSts}

-- whether objects are created at a node
abbrev pub is_made_at : Facts → Hierarchy → ℕ → Bool
is_made_at F H n = any_below (length F.sites.items) (λ s. ((site_at F s).dim == 0) && (place_of_row H (site_row F s) == n))

-- whether a node offers a body of a slot
abbrev pub offers_body : Facts → Hierarchy → ℕ → ℕ → Bool
offers_body F H n x = any_below (length F.columns.items) (λ c. is_def (column_kind F c) && (is_slot (column_slot F c) x && is_offered H n c))

-- whether a declaration at a node is written as a head: in an interface, and in an abstract class to which no body of the slot is offered
abbrev pub is_headed : Facts → Hierarchy → ℕ → ℕ → Bool
is_headed F H n x = not (is_class_node F H n) || (not (is_made_at F H n) && not (offers_body F H n x))

-- whether the type of a node has a filler of a slot: it has objects, and is offered the slot without a body
abbrev pub is_filled : Facts → Hierarchy → ℕ → ℕ → Bool
is_filled F H n x = is_made_at F H n && (offers_slot F H n x && not (offers_body F H n x))

-- the types of variables of a method from number n on
abbrev pub new_types : Renaming → ℕ → PlainMethod → ℕ → List PlainLocal → List Ty
new_types R m k n vs = each (λ i v. retyped (R.row_type (variable_row m k i)) v.ty ∷ []) n vs

-- a method takes and gives what an old one does, in the types of its rows
pub record HasTypes (R : Renaming) (m : ℕ) (old new : PlainMethod) : Type 0 where
  pub params : types_of new.params ≡ new_types R m old 0 old.params
  pub result : new.result ≡ retyped_if (R.row_type (result_in old.slot m)) old.result

-- a method takes and gives what a slot does
pub record HasSlotTypes (R : Renaming) (s : ℕ) (slot : PlainSlot) (new : PlainMethod) : Type 0 where
  pub params : types_of new.params ≡ slot_types R s slot.params
  pub result : new.result ≡ retyped_if (R.row_type (row.Return s)) slot.result

-- the code of a method is that of another
pub record HasCode (P W : Plain) (R : Renaming) (m : ℕ) (old new : PlainMethod) : Type 0 where
  pub code : Sts
  pub written : Sts
  pub old_code : old.body ≡ Some code
  pub new_code : new.body ≡ Some written
  pub locals : types_of new.locals ≡ new_types R m old (length old.params) old.locals
  pub matches : MatchesSts P W R (env_of m old) code written

module _ (P : Plain) (F : Facts) (H : Hierarchy) (W : Plain) (T : Places) where
  -- an item has a column, which stands at the node n
  pub record StandsAt (i : ColumnItem) (n : ℕ) : Type 0 where
    pub number : ℕ
    pub numbered : (numbers P).column i ≡ Some number
    pub place : NodeId
    pub placed : place_of_column H number ≡ Some place
    pub at : place.0 ≡ n

  -- an instance member of the type of the node where its item stands
  pub record IsInstanceAt (i : ColumnItem) (is_static : Bool) (owner : ℕ) : Type 0 where
    pub node : ℕ
    pub stands : StandsAt i node
    pub instance : is_static ≡ false
    pub owner_is : owner ≡ T.type_of node

  -- an instance field is an old one that stands at a node
  pub record IsField (f : ℕ) (new : PlainField) : Type 0 where
    pub old : PlainField
    pub old_stands : slice_get P.fields f ≡ Some old
    pub at : IsInstanceAt (column.Fld f) new.is_static new.owner
    pub name : new.name ≡ (renaming_of P H T).field_name f
    pub type : new.ty ≡ retyped ((renaming_of P H T).row_type (row.Field f)) old.ty

  -- an instance method is an old one whose body stands at a node
  pub record IsBody (m : ℕ) (new : PlainMethod) : Type 0 where
    pub old : PlainMethod
    pub old_stands : slice_get P.methods m ≡ Some old
    pub at : IsInstanceAt (column.Def m) new.is_static new.owner
    pub name : new.name ≡ (renaming_of P H T).method_name m
    pub types : HasTypes (renaming_of P H T) m old new
    pub code : HasCode P W (renaming_of P H T) m old new

  -- an instance method of the type of a node, of the slot of the old method m
  pub record IsOfSlot (n m : ℕ) (new : PlainMethod) : Type 0 where
    pub was : HasOldSlot P m
    pub instance : new.is_static ≡ false
    pub owner : new.owner ≡ T.type_of n
    pub name : new.name ≡ (renaming_of P H T).method_name m
    pub types : HasSlotTypes (renaming_of P H T) was.slot was.signature new

  -- it is the head of a declaration that stands there
  pub record IsHead (n m : ℕ) (new : PlainMethod) : Type 0 where
    pub of : IsOfSlot n m new
    pub stands : StandsAt (column.Dcl m) n
    pub headed : is_headed F H n of.was.slot ≡ true
    pub bodyless : new.body ≡ None

  -- it fills in for a body that no object needs
  pub record IsFiller (n m : ℕ) (new : PlainMethod) : Type 0 where
    pub of : IsOfSlot n m new
    pub live : is_live H.order n ≡ true
    pub filled : is_filled F H n of.was.slot ≡ true
    pub bodied : is_some new.body ≡ true

  -- a static field and a static method, in the holders
  pub record IsStaticFieldOf (f g : ℕ) : Type 0 where
    pub same : IsStaticField P W (renaming_of P H T) f g
    pub type : same.new.ty ≡ retyped ((renaming_of P H T).row_type (row.Field f)) same.old.ty

  -- g is the static method m in the holder of its class, with new types and matching code
  pub record IsStaticMethodOf (m g : ℕ) : Type 0 where
    pub same : IsStaticMethod P W (renaming_of P H T) m g
    pub types : HasTypes (renaming_of P H T) m same.old same.new
    pub code : HasCode P W (renaming_of P H T) m same.old same.new
