-- Mirror. A hierarchy as the steps towards a tree keep it.
use Rattle.std.specs.Prelude.{◌≡◌, ℕ, Bool, true, false, Option, None, is_some}
use Rattle.std.specs.Option.{option_map_or}
use Rattle.kaba_order.specs.Orders.{is_live}
use Rattle.fact_model.specs.Items.{column_kind, column_slot}
use Rattle.fact_model.specs.Classes.{is_interface}
use Rattle.fact_model.specs.declared.facts.Facts.{Facts}
use Rattle.fact_model.specs.declared.sets.PointsTo.{PointsTo}
use Rattle.fact_model.specs.declared.sets.Table.{Table}
use Rattle.hier_model.specs.Hierarchies.{Hierarchy, origin_of, member_name, IsHierarchyOf}
use Rattle.hier_model.specs.Names.{is_field}
use Rattle.hier_rules.specs.Names.{method_slot}
use Rattle.hier_rules.specs.First.{first_of_edit}
use Rattle.hier_laws.proofs.GivenLemmas.{given}
use Rattle.hier_laws.proofs.ShapeLemmas.{shape}
use Rattle.hier_tree.specs.Origins.{Keeps, AreNamesApart}

-- the number of the class from which a node comes
abbrev pub origin_at : Hierarchy → ℕ → ℕ
origin_at H n = option_map_or (λ k. k.0) (origin_of H n) 0

-- a field; the slot of a method
abbrev pub field_at : Facts → ℕ → Bool
field_at F c = is_field (column_kind F c)

-- the slot of the method of a column; a field and a mark have none
abbrev pub slot_at : Facts → ℕ → Option ℕ
slot_at F c = method_slot (column_kind F c) (column_slot F c)

-- a hierarchy whose origins and names fit, and that meets B2 to B8
pub record IsKept (F : Facts) (pt : PointsTo) (t : Table) (H : Hierarchy) : Type 0 where
  pub fits : IsHierarchyOf F H
  pub table : H.table ≡ t.rows.items
  pub there : (n : ℕ) → is_live H.order n ≡ true → is_some (origin_of H n) ≡ true
  pub origins : Keeps (given F pt t) (shape H) (origin_at H)
  pub names : AreNamesApart (given F pt t) (shape H) (field_at F) (slot_at F) (member_name H)
  pub meets : first_of_edit F pt H ≡ None

-- all types are classes
pub record HasNoInterface (F : Facts) : Type 0 where
  pub classes : (a : ℕ) → is_interface F a ≡ false
