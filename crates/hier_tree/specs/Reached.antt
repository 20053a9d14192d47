-- Believed. The hierarchies that a script of drops, fresh renames and undos makes of a start: an undo brings back one of them.
use Rattle.std.specs.Prelude.{◌≡◌, ◌≢◌, ℕ, true, List, All, Some, Ok}
use Rattle.kaba_base.specs.declared.NodeId.{NodeId}
use Rattle.kaba_base.specs.declared.ColId.{ColId}
use Rattle.kaba_order.specs.Orders.{is_live}
use Rattle.fact_model.specs.Items.{column_kind}
use Rattle.fact_model.specs.declared.facts.Facts.{Facts}
use Rattle.fact_model.specs.declared.facts.MakerNames.{MakerNames}
use Rattle.fact_model.specs.declared.sets.PointsTo.{PointsTo}
use Rattle.fact_model.specs.declared.sets.Table.{Table}
use Rattle.fact_model.specs.declared.sets.Lattice.{Lattice}
use Rattle.hier_model.specs.Hierarchies.{Hierarchy, place_of_column, type_name, member_name}
use Rattle.hier_model.specs.Start.{start_from}
use Rattle.hier_model.specs.declared.edits.Edit.TheVariants as edit
use Rattle.hier_rules.specs.Names.{is_member}
use Rattle.hier_edit.specs.Applied.{applied}

-- no type, no class with static members, no holder of the methods that make objects, and no field or method bears a name
pub record IsFresh (F : Facts) (H : Hierarchy) (name : List ℕ) : Type 0 where
  pub types : (n : ℕ) → is_live H.order n ≡ true → type_name H n ≢ name
  pub holders : All (λ k. k.holder ≡ true → k.name ≢ name) F.classes.items
  pub makers : (m : MakerNames) → F.makers ≡ Some m → m.holder ≢ name
  pub members : (c : ℕ) (p : NodeId) → is_member (column_kind F c) ≡ true → place_of_column H c ≡ Some p → member_name H c ≢ name

module _ (F : Facts) (pt : PointsTo) (t : Table) (l : Lattice) where
  -- a hierarchy that accepted drops and fresh renames make of the start
  pub data IsReached : Hierarchy → Type 0 where
    begun : IsReached (start_from F t l)
    dropped : {H New : Hierarchy} (n : NodeId) → IsReached H → applied F pt H (edit.Drop n) ≡ Ok New → IsReached New
    type_named : {H New : Hierarchy} (n : NodeId) (name : List ℕ) → IsReached H → IsFresh F H name → applied F pt H (edit.TypeName n name)
        ≡ Ok New → IsReached New
    member_named : {H New : Hierarchy} (c : ColId) (name : List ℕ) → IsReached H → IsFresh F H name → applied F pt H (edit.MemberName c name)
        ≡ Ok New → IsReached New
