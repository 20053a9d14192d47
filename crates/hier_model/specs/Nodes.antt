-- Mirror. What the tests of a node are asked for.
use Rattle.std.specs.Prelude.{◌≡◌, ℕ, true}
use Rattle.kaba_order.specs.Orders.{is_live}
use Rattle.fact_model.specs.InRange.{InRange}
use Rattle.fact_model.specs.declared.facts.Facts.{Facts}
use Rattle.hier_model.specs.Hierarchies.{Hierarchy, IsHierarchyOf}

-- a live node of a hierarchy of facts in range
pub record IsNodeOf (F : Facts) (H : Hierarchy) (n : ℕ) : Type 0 where
  pub range : InRange F
  pub hierarchy : IsHierarchyOf F H
  pub node : is_live H.order n ≡ true
