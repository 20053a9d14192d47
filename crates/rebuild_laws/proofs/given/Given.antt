-- What the look-ups in a program that rebuilds another rest on, from its facts and a hierarchy that breaks no obligation.
use Rattle.std.proofs.Common.{◌≡◌, ℕ, Some, None, sym, ap, ◌∙◌, subst}
use Rattle.std.specs.Prelude.{true, false, slice_get, option_and_then}
use Rattle.std.proofs.lemmas.Bool.{false≢true}
use Rattle.std.proofs.lemmas.Option.{same_Some}
use Rattle.java_core.specs.Programs.{Plain, PlainMethod}
use Rattle.java_core.specs.Classes.{slot_of_method}
use Rattle.java_core.specs.Formed.{IsFormed}
use Rattle.fact_model.specs.declared.facts.Facts.{Facts}
use Rattle.fact_model.specs.declared.facts.ColumnInfo.{ColumnInfo}
use Rattle.fact_model.specs.declared.sets.PointsTo.{PointsTo}
use Rattle.hier_model.specs.Hierarchies.{Hierarchy, IsHierarchyOf, is_method}
use Rattle.hier_rules.specs.First.{first_broken}
use Rattle.flow_rules.specs.declared.items.ColumnItem.{ColumnItem}
use Rattle.flow_rules.specs.declared.items.ColumnItem.TheVariants as column
use Rattle.flow_rules.specs.Facts.{numbers, kind_of, slot_in, IsFactsOf}
use Rattle.flow_rules.proofs.NumberedItems.{numbered_columns}
use Rattle.flow_laws.proofs.order.Columns.{Stands, for_field, for_declaration, for_body, for_mark, column_stands, declaration_column, item_of, numbered_column}
use Rattle.rebuild_model.specs.Rebuilds.{Rebuilds}
use Rattle.rebuild_laws.specs.looks.Known.{AreItemColumns, KnownOfBoth}
use Rattle.rebuild_laws.proofs.looks.Slots.{method_of_slot}
use Rattle.rebuild_laws.proofs.given.Apart.{names_apart}

module _ (P : Plain) (formed : IsFormed P) where
  -- an instance method has a slot
  method_slotted : (m : ℕ) (k : PlainMethod) → slice_get P.methods m ≡ Some k → k.is_static ≡ false → (s : ℕ) × (slot_of_method P m ≡ Some s)
  method_slotted m k e instance =
      let s = (formed.methods m k e).slotted instance in (s.0, ap (option_and_then (λ (k : PlainMethod). k.slot)) e ∙ s.1)

  item_slotted : (i : ColumnItem) → Stands P i → is_method (kind_of i) ≡ true → (s : ℕ) × (slot_in P i ≡ Some s)
  item_slotted _ (for_declaration m k e instance) h = method_slotted m k e instance
  item_slotted _ (for_body m k e instance body) h = method_slotted m k e instance
  item_slotted _ (for_field f k e instance) h = absurd (false≢true h)
  item_slotted _ (for_mark c) h = absurd (false≢true h)

  method_declared : (m s : ℕ) → slot_of_method P m ≡ Some s → (c : ℕ) × ((numbers P).column (column.Dcl m) ≡ Some c)
  unfolding numbers
  method_declared m s h =
      let old = method_of_slot P m s h in
      declaration_column P m old.method old.stands (((formed.methods m old.method old.stands).slots s).0 old.slot).instance

  module _ (F : Facts) (facts : IsFactsOf P F) where
    pub columns : AreItemColumns P F
    unfolding numbers
    columns = record {
      below = λ i c e. (numbered_column P F facts i c e).0;
      kind = λ i c e. ap (λ (z : ColumnInfo). z.kind) (numbered_column P F facts i c e).1;
      slot = λ i c e. ap (λ (z : ColumnInfo). z.slot) (numbered_column P F facts i c e).1;
      one = λ i j c e f.
          let x = (numbered_columns P).at i c e in
          let y = (numbered_columns P).at j c f in
          sym x.2 ∙ ap (λ z. z.item) (same_Some _ _ (sym x.1 ∙ y.1)) ∙ y.2;
      item = λ c lt. let x = item_of P F facts c lt in (x.item, x.number);
      slotted = λ i c e h. let x = (numbered_columns P).at i c e in item_slotted i (subst (λ z. Stands P z) x.2 (column_stands P c x.0 x.1)) h;
      declared = method_declared;
    }

    -- all that the look-ups rest on
    unfoldable pub known : (pt : PointsTo) (H : Hierarchy) (W : Plain) → IsFormed W → IsHierarchyOf F H → first_broken F pt H ≡ None
        → Rebuilds P F H W → KnownOfBoth P F H W
    known pt H W new hierarchy none rebuilt = record {
      old = formed;
      new = new;
      rebuilt = rebuilt;
      columns = columns;
      order = hierarchy.sized.order;
      placed = hierarchy.placed.columns;
      names = hierarchy.names;
      apart = names_apart F pt H hierarchy.sized.order none;
    }
