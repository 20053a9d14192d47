-- An instance method of the tree is of a slot that its node offers, and has the slot's name.
use Rattle.std.proofs.Common.{◌≡◌, ℕ, true, List, [], Option, Some, None, sym, ap, ◌∙◌, subst}
use Rattle.std.specs.Prelude.{slice_get}
use Rattle.std.specs.Option.{option_map_or}
use Rattle.std.proofs.lemmas.Bool.{false≢true, eqb-true}
use Rattle.kaba_base.specs.declared.NodeId.{NodeId}
use Rattle.kaba_order.specs.Orders.{is_live, is_le}
use Rattle.java_core.specs.Programs.{Plain}
use Rattle.java_core.specs.Classes.{slot_of_method}
use Rattle.fact_model.specs.Items.{column_kind, column_slot}
use Rattle.fact_model.specs.declared.facts.Facts.{Facts}
use Rattle.fact_model.specs.declared.sets.PointsTo.{PointsTo}
use Rattle.hier_model.specs.Hierarchies.{Hierarchy, place_of_column, is_at, is_above, stands_at, is_offered, is_method, member_name}
use Rattle.flow_rules.specs.declared.items.ColumnItem.TheVariants as column
use Rattle.rebuild_laws.specs.looks.Known.{AreItemColumns}
use Rattle.rebuild_laws.proofs.given.Given.{columns as columns_are}
use Rattle.rebuild_laws.proofs.given.Apart.{names_apart}
use Rattle.rebuild_model.specs.Renaming.{renaming_of}
use Rattle.write_laws.proofs.rebuilds.Nodes.{items}
use Rattle.write_laws.proofs.names.Origins.{R}
use Rattle.write_laws.specs.names.Laws.{IsNamedProgram}
use Rattle.write_laws.proofs.names.Variables.{column_number}

module _ {P : Plain} {F : Facts} {pt : PointsTo} {H : Hierarchy} (G : IsNamedProgram P F pt H) where
  columns : AreItemColumns P F
  columns = columns_are P G.formed F G.facts

  -- a node offers a slot under a name
  pub record OffersSlot (n s : ℕ) (x : List ℕ) : Type 0 where
    pub number : ℕ
    pub kind : is_method (column_kind F number) ≡ true
    pub slot : column_slot F number ≡ Some s
    pub offered : is_offered H n number ≡ true
    pub name : x ≡ member_name H number

  -- two slots that a node offers under one name are one
  pub one_slot : (n s t : ℕ) (x : List ℕ) → OffersSlot n s x → OffersSlot n t x → s ≡ t
  one_slot n s t x a b =
      (names_apart F pt H G.hierarchy.sized.order G.unbroken).slots n a.number b.number s t a.kind b.kind a.slot b.slot a.offered b.offered
      (sym a.name ∙ b.name)

  -- what stands at a live node is offered there
  pub offered_there : (n c : ℕ) → is_live H.order n ≡ true → stands_at H n c ≡ true → is_offered H n c ≡ true
  offered_there n c live h = go (place_of_column H c) h
    where
      go : (o : Option NodeId) → is_at n o ≡ true → is_above H.order n o ≡ true
      go None e = absurd (false≢true e)
      go (Some p) e = subst (λ z. is_le H.order n z ≡ true) (sym (eqb-true p.0 n e)) (G.hierarchy.sized.order.reflexive n live)

  -- the methods of a slot have the name of each of its columns
  pub name_is : (m s c : ℕ) → slot_of_method P m ≡ Some s → is_method (column_kind F c) ≡ true → column_slot F c ≡ Some s
      → (R P F H).method_name m ≡ member_name H c
  unfolding renaming_of
  name_is m s c e kind slot =
      let d = columns.declared m s e in
      ap (λ o. option_map_or (member_name H) o []) d.1
      ∙ G.hierarchy.names d.0 c s (ap is_method (columns.kind (column.Dcl m) d.0 d.1)) kind (columns.slot (column.Dcl m) d.0 d.1 ∙ e) slot

  -- the body of a column
  pub body_offers : (n c m s : ℕ) → is_live H.order n ≡ true → slice_get (items P F H) c ≡ Some (column.Def m) → stands_at H n c ≡ true
      → slot_of_method P m ≡ Some s
      → OffersSlot n s ((R P F H).method_name m)
  body_offers n c m s live e at slot =
      let number = column_number G c (column.Def m) e in
      let kind = ap is_method (columns.kind (column.Def m) c number) in
      let of = columns.slot (column.Def m) c number ∙ slot in
      record { number = c; kind = kind; slot = of; offered = offered_there n c live at; name = name_is m s c slot kind of }
