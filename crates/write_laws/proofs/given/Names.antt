-- The names that a hierarchy without a broken obligation gives to live types, and to members that stand, can be written.
use Rattle.std.proofs.Common.{◌≡◌, ℕ, true, [], Some, refl, ap, ◌∙◌}
use Rattle.std.specs.Option.{option_map_or}
use Rattle.std.proofs.lemmas.Bool.{eq-eqb}
use Rattle.kaba_order.specs.Orders.{is_live}
use Rattle.java_lex.specs.Writable.{IsName}
use Rattle.java_core.specs.Classes.{slot_of_method}
use Rattle.fact_model.specs.Items.{column_kind, column_slot}
use Rattle.hier_model.specs.Hierarchies.{is_at, stands_at, is_method, type_name, member_name}
use Rattle.hier_laws.specs.Shapes.{OffersColumn}
use Rattle.hier_rules.specs.Names.{is_member}
use Rattle.hier_laws.proofs.ShapeLemmas.{shape, placed}
use Rattle.flow_rules.specs.declared.items.ColumnItem.TheVariants as column
use Rattle.flow_rules.specs.Facts.{numbers}
use Rattle.rebuild_model.specs.Renaming.{renaming_of}
use Rattle.rebuild_laws.specs.looks.Known.{AreItemColumns}
use Rattle.rebuild_laws.proofs.given.Given.{columns as columns_are}
use Rattle.write_laws.proofs.given.Written.{type_written, member_written}
use Rattle.write_laws.proofs.given.Given.{Given, words}
use Rattle.write_laws.proofs.given.Letters.{named}

module _ (C : Given) where
  open C use {program as P, facts as F, hierarchy as H}
  open words C use {renaming as R}

  -- the name of a live node
  pub type_named : (n : ℕ) → is_live H.order n ≡ true → IsName (type_name H n)
  type_named n live = named (type_name H n) (type_written F C.sets H C.ready.unbroken n live)

  -- the name of a member that stands somewhere
  pub member_named : (n c : ℕ) → stands_at H n c ≡ true → is_member (column_kind F c) ≡ true → IsName (member_name H c)
  member_named n c at kind = named (member_name H c) (member_written F C.sets H C.ready.unbroken C.ready.hierarchy.placed.columns n c at kind)

  -- the name of a member that some node offers
  pub offered_named : (n c : ℕ) → OffersColumn (shape H) n c → is_member (column_kind F c) ≡ true → IsName (member_name H c)
  offered_named n c o kind =
      member_named o.at c (ap (is_at o.at) (placed H c o.at o.stands) ∙ eq-eqb o.at o.at refl) kind

  pub columns : AreItemColumns P F
  columns = columns_are P C.ready.formed F C.ready.facts

  -- a field has the name of its column
  pub field_name_is : (f c : ℕ) → (numbers P).column (column.Fld f) ≡ Some c → R.field_name f ≡ member_name H c
  unfolding renaming_of
  field_name_is f c e = ap (λ o. option_map_or (member_name H) o []) e

  -- a method has the name of each column of its slot
  pub method_name_is : (m s c : ℕ) → slot_of_method P m ≡ Some s → is_method (column_kind F c) ≡ true → column_slot F c ≡ Some s
      → R.method_name m ≡ member_name H c
  unfolding renaming_of
  method_name_is m s c e kind slot =
      let d = columns.declared m s e in
      ap (λ o. option_map_or (member_name H) o []) d.1
      ∙ C.ready.hierarchy.names d.0 c s (ap is_method (columns.kind (column.Dcl m) d.0 d.1)) kind (columns.slot (column.Dcl m) d.0 d.1 ∙ e) slot
