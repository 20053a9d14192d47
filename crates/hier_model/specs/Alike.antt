-- Mirror. What the walks over two hierarchies are asked for.
use Rattle.std.specs.Prelude.{◌≡◌, ◌<◌, length}
use Rattle.kaba_order.specs.Orders.{IsPartialOrder}
use Rattle.hier_model.specs.Hierarchies.{Hierarchy}

-- two hierarchies have orders on as many nodes, and lists as long
pub record AreAlike (old new : Hierarchy) : Type 0 where
  pub old_order : IsPartialOrder old.order
  pub new_order : IsPartialOrder new.order
  pub count : length new.order.live ≡ length old.order.live
  pub types : length old.types ≡ length old.order.live
  pub new_types : length new.types ≡ length old.types
  pub origins : length old.origins ≡ length old.order.live
  pub new_origins : length new.origins ≡ length old.origins
  pub columns : length new.columns ≡ length old.columns
  pub few_columns : length old.columns < 4294967295
  pub rows : length new.rows ≡ length old.rows
  pub few_rows : length old.rows < 4294967295
  pub members : length new.members ≡ length old.members
  pub few_members : length old.members < 4294967295
