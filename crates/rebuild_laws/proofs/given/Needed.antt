-- The bodies that objects need, and those that super calls run, are found in a program that rebuilds another.
use Rattle.std.proofs.Common.{◌≡◌, ◌≢◌, ℕ, Some, None, refl, sym, ap, ◌∙◌, ⊎_elim}
use Rattle.std.specs.Prelude.{true}
use Rattle.std.specs.Option.{option_map}
use Rattle.std.proofs.lemmas.Bool.{cases_eq}
use Rattle.kaba_base.specs.declared.NodeId.{NodeId}
use Rattle.java_core.specs.Programs.{Plain}
use Rattle.java_core.specs.Classes.{lookup, super_method, slot_of_method, slot_of}
use Rattle.kaba_order.specs.Orders.{is_le}
use Rattle.fact_model.specs.Items.{site_row, column_slot}
use Rattle.fact_model.specs.Classes.{is_def}
use Rattle.fact_model.specs.InRange.{InRange}
use Rattle.fact_model.specs.InOrder.{InOrder}
use Rattle.fact_model.specs.Flowing.{AreSets}
use Rattle.fact_model.specs.Entries.{IsTable}
use Rattle.fact_model.specs.declared.facts.Facts.{Facts}
use Rattle.fact_model.specs.declared.sets.PointsTo.{PointsTo}
use Rattle.fact_model.specs.declared.sets.Table.{Table}
use Rattle.hier_model.specs.Hierarchies.{Hierarchy, place_of_row}
use Rattle.hier_laws.specs.Shapes.{Given, OffersColumn}
use Rattle.hier_laws.specs.Obligations.{IsOther}
use Rattle.hier_rules.specs.Asked.{is_super}
use Rattle.hier_rules.specs.First.{first_broken}
use Rattle.hier_laws.proofs.ShapeLemmas.{shape, placed}
use Rattle.hier_laws.proofs.GivenLemmas.{given, super_fact}
use Rattle.flow_rules.specs.declared.items.ColumnItem.{ColumnItem}
use Rattle.flow_rules.specs.declared.items.ColumnItem.TheVariants as column
use Rattle.flow_rules.specs.Facts.{numbers}
use Rattle.rebuild_model.specs.Members.{StandsAt}
use Rattle.rebuild_laws.specs.looks.Known as known
use Rattle.rebuild_laws.specs.looks.Known.{KnownOfBoth, sides}
use Rattle.rebuild_laws.proofs.looks.Bodies.{number, finds_super, runs_body}
use Rattle.rebuild_laws.proofs.given.Rest.{half, need_slot, nearest, above, between}

module _ {P : Plain} {F : Facts} {H : Hierarchy} {W : Plain} (K : KnownOfBoth P F H W) where
  open sides K use {places as T, renaming as R}

  -- a node offers an item where it offers the item's column
  pub offers_item : (n c : ℕ) (i : ColumnItem) → (numbers P).column i ≡ Some c → OffersColumn (shape H) n c → known.Offers K n i
  offers_item n c i e o = record {
    node = o.at;
    stands = record { number = c; numbered = e; place = record { 0 = o.at }; placed = placed H c o.at o.stands; at = refl };
    above = o.above;
  }

  module _ (pt : PointsTo) (t : Table) (A : InRange F) (O : InOrder F) (S : AreSets F pt) (B : IsTable F t) (table : H.table ≡ t.rows.items)
      (none : first_broken F pt H ≡ None) where
    abbrev G : Given
    G = given F pt t

    -- another method's body of the slot is another body
    other : (c d k j s : ℕ) → (numbers P).column (column.Def d) ≡ Some c → column_slot F c ≡ Some s → slot_of_method P k ≡ Some s
        → (st : StandsAt P F H W T (column.Def k) j) → k ≢ d → IsOther G (shape H) c st.number j
    other c d k j s e slot of st ne = record {
      body = ap is_def (K.columns.kind (column.Def k) st.number st.numbered);
      slot = K.columns.slot (column.Def k) st.number st.numbered ∙ of ∙ sym slot;
      other = λ same. ne (method_of (K.columns.one (column.Def k) (column.Def d) c (st.numbered ∙ ap Some same) e));
      stands = ap (option_map (λ (p : NodeId). p.0)) st.placed ∙ ap Some st.at;
    }
      where
        method_of : column.Def k ≡ column.Def d → k ≡ d
        method_of h = cc

    module _ (s x c d : ℕ) (need : G.needs s x c ≡ true) (e : (numbers P).column (column.Def d) ≡ Some c) where
      abbrev n : ℕ
      n = place_of_row H (site_row F s)

      pub need_of : slot_of_method P d ≡ Some x
      need_of = sym (K.columns.slot (column.Def d) c e) ∙ need_slot F pt t A O S B H table none s x c need

      pub need_offers : known.Offers K (place_of_row H (site_row F s)) (column.Def d)
      need_offers = offers_item n c (column.Def d) e ((half F pt t A O S B H table none).needed s x c need)

      none_nearer : (k j : ℕ) → slot_of_method P k ≡ Some x → StandsAt P F H W T (column.Def k) j → is_le H.order n j ≡ true
          → is_le H.order j need_offers.node ≡ true → k ≡ d
      unfolding need_offers offers_item
      none_nearer k j of st le high =
          let o = (half F pt t A O S B H table none).needed s x c need in
          ⊎_elim
          (λ same. same)
          (λ ne. absurd (nearest F pt t A O S B H table none s x c st.number j need
          (other c d k j x e (need_slot F pt t A O S B H table none s x c need) of st ne) le (o.at, o.stands, high)))
          (cases_eq k d)

      -- an object of the site runs the new body, for the slot that a call finds by the name of a method of the old slot
      pub needed_body : (v m q : ℕ) → is_le H.order n v ≡ true → slot_of_method P m ≡ Some x → slot_of W (T.type_of v) (R.method_name m) ≡ Some q
          → lookup W (T.type_of (place_of_row H (site_row F s))) q ≡ Some (number K (place_of_row H (site_row F s)) d x need_of need_offers)
      needed_body v m q up of found = runs_body K n d x need_of need_offers none_nearer v m q up of found

    module _ (r c d : ℕ) (run : is_super F r c ≡ true) (e : (numbers P).column (column.Def d) ≡ Some c) where
      pub super_offers : known.Offers K (place_of_row H r) (column.Def d)
      super_offers = offers_item (place_of_row H r) c (column.Def d) e ((half F pt t A O S B H table none).ran r c run)

      pub super_slot : ℕ
      super_slot = (super_fact F pt t A O S B r c run).2.slot

      slot_there : column_slot F c ≡ Some super_slot
      unfolding super_slot
      slot_there = (super_fact F pt t A O S B r c run).2.slot_is

      pub super_of : slot_of_method P d ≡ Some super_slot
      super_of = sym (K.columns.slot (column.Def d) c e) ∙ slot_there

      not_there : place_of_row H r ≢ super_offers.node
      unfolding super_offers offers_item
      not_there same =
          let o = (half F pt t A O S B H table none).ran r c run in
          above F pt t A O S B H table none r c run (o.stands ∙ ap Some (sym same))

      none_between : (k j : ℕ) → slot_of_method P k ≡ Some super_slot → StandsAt P F H W T (column.Def k) j
          → is_le H.order (place_of_row H r) j ≡ true → place_of_row H r ≢ j
          → is_le H.order j super_offers.node ≡ true → k ≡ d
      unfolding super_offers offers_item
      none_between k j of st le strict high =
          let o = (half F pt t A O S B H table none).ran r c run in
          ⊎_elim
          (λ same. same)
          (λ ne. absurd (between F pt t A O S B H table none r c st.number j run (other c d k j super_slot e slot_there of st ne) le strict
          (o.at, o.stands, high)))
          (cases_eq k d)

      -- a super call in the method whose `this` is the row finds the new body
      pub super_body : super_method W (T.type_of (place_of_row H r)) (R.method_name d) ≡ Some
          (number K (place_of_row H r) d super_slot super_of super_offers)
      super_body = finds_super K (place_of_row H r) d super_slot super_of super_offers not_there none_between
