-- A program that rebuilds another offers each row its columns.
use Rattle.std.proofs.Common.{◌≡◌, ℕ, Some, None, refl, sym, ap, ◌∙◌, subst}
use Rattle.std.specs.Prelude.{true}
use Rattle.java_core.specs.Programs.{Plain}
use Rattle.java_core.specs.Classes.{IsSubclass}
use Rattle.kaba_base.specs.declared.ClassId.{ClassId}
use Rattle.kaba_bits.specs.Sets.{bit, row}
use Rattle.fact_model.specs.InRange.{InRange}
use Rattle.fact_model.specs.InOrder.{InOrder}
use Rattle.fact_model.specs.Flowing.{AreSets}
use Rattle.fact_model.specs.Entries.{IsTable}
use Rattle.fact_model.specs.declared.facts.Facts.{Facts}
use Rattle.fact_model.specs.declared.sets.PointsTo.{PointsTo}
use Rattle.fact_model.specs.declared.sets.Table.{Table}
use Rattle.hier_model.specs.Hierarchies.{Hierarchy, place_of_row}
use Rattle.hier_rules.specs.First.{first_broken}
use Rattle.flow_rules.specs.declared.items.ColumnItem.{ColumnItem}
use Rattle.flow_rules.specs.declared.items.ColumnItem.TheVariants as column
use Rattle.flow_rules.specs.Facts.{numbers}
use Rattle.rebuild_laws.specs.looks.Known.{KnownOfBoth, Offers}
use Rattle.rebuild_laws.proofs.looks.Nodes.{subclass_of}
use Rattle.rebuild_laws.proofs.looks.Fields.{new_field, finds_field}
use Rattle.rebuild_laws.proofs.looks.Slots.{method_of_slot, offers_item}
use Rattle.rebuild_laws.proofs.looks.Declared.{new_body, finds_slot}
use Rattle.rebuild_laws.proofs.given.Rest.{half}
use Rattle.rebuild_laws.proofs.given.Needed as needed
use Rattle.rebuild_laws.specs.types.Rows.{OffersField, OffersMethod, OffersBody, OffersMark, OffersRows}

module _ {P : Plain} {F : Facts} {H : Hierarchy} {W : Plain} (K : KnownOfBoth P F H W) (pt : PointsTo) (t : Table) (A : InRange F) (O : InOrder F)
    (S : AreSets F pt) (B : IsTable F t) (table : H.table ≡ t.rows.items) (none : first_broken F pt H ≡ None) where
  open K.rebuilt use {places as T}

  abbrev Has : ℕ → ColumnItem → Type 0
  Has r i = (c : ℕ) × ((numbers P).column i ≡ Some c) × (bit (row H.table r) c ≡ true)

  offered : (r : ℕ) (i : ColumnItem) → Has r i → Offers K (place_of_row H r) i
  offered r i h = needed.offers_item K (place_of_row H r) h.0 i h.1
      ((half F pt t A O S B H table none).offered r h.0 (sym (ap (λ z. bit (row z r) h.0) table) ∙ h.2))

  field_offered : (r f : ℕ) → Has r (column.Fld f) → OffersField P F H W T r f
  field_offered r f h =
      let o = offered r (column.Fld f) h in
      let x = new_field K f o.node o.stands in
      record { number = x.0; field = x.1.field; found = finds_field K f (place_of_row H r) o; stands = x.1.stands; is = x.1.is }

  method_offered : (r m : ℕ) → Has r (column.Dcl m) → OffersMethod P F H W T r m
  method_offered r m h =
      let n = place_of_row H r in
      let o = offered r (column.Dcl m) h in
      let s = K.columns.slotted (column.Dcl m) h.0 h.1 refl in
      let old = method_of_slot P m s.0 s.1 in
      let i = ((K.old.methods m old.method old.stands).slots s.0).0 old.slot in
      let x = finds_slot K n s.0 m (K.order.lower_lives n o.node o.above) (offers_item K n s.0 (column.Dcl m) refl s.1 o) s.1 i.slot i.stands in
      record {
        number = x.0;
        found = x.1.found;
        was = record { old = old.method; old_stands = old.stands; slot = s.0; of_slot = old.slot; signature = i.slot; slot_stands = i.stands };
        types = x.1.types;
      }

  body_offered : (r m : ℕ) → Has r (column.Def m) → OffersBody P F H W T r m
  body_offered r m h =
      let o = offered r (column.Def m) h in
      let x = new_body K m o.node o.stands in
      record {
        number = x.0;
        method = x.1.method;
        stands = x.1.stands;
        is = x.1.is;
        above =
            subst (λ z. IsSubclass W (T.type_of (place_of_row H r)) z) (sym x.1.owner) (subclass_of K (place_of_row H r) o.node o.above);
      }

  mark_offered : (r : ℕ) (k : ClassId) → Has r (column.Is k) → OffersMark P F H W T r k
  mark_offered r k h =
      let o = offered r (column.Is k) h in
      record { node = o.node; stands = o.stands; above = subclass_of K (place_of_row H r) o.node o.above }

  pub rows_offered : OffersRows P F H W T
  rows_offered = record { fields = field_offered; declarations = method_offered; bodies = body_offered; marks = mark_offered }
