-- Mirror. What of an order was before nodes were joined.
use Rattle.std.specs.Prelude.{◌≡◌, ℕ, ◌<◌, Bool, List, length, All}
use Rattle.kaba_base.specs.declared.NodeId.{NodeId}
use Rattle.kaba_bits.specs.Sets.{bit, row}
use Rattle.kaba_order.specs.Orders.{Ordered, is_below_some}
use Rattle.kaba_order.specs.Written.{written, each_below, only_if}
use Rattle.kaba_order.specs.declared.keep.Former.{Former}

-- the rows of which a set has the numbers, with these
abbrev pub rows_at : List (List Bool) → List Bool → List (ℕ × List Bool)
rows_at le low = each_below (length le) (λ k. only_if (bit low k) (k, row le k))

-- the set of the nodes that are at or below some node of a list
pub record AreBelow (o : Ordered) (roots : List NodeId) (low : List Bool) : Type 0 where
  pub width : length low ≡ length o.live
  pub exact : (n : ℕ) → bit low n ≡ is_below_some o roots n

-- an order is another again, where the live nodes and the rows that were kept of that are put back
pub record IsFormerOf (old new : Ordered) (kept : Former) : Type 0 where
  pub within : All (λ x. x.0 < length new.le) kept.rows.items
  pub live : kept.live ≡ old.live
  pub le : written new.le kept.rows.items ≡ old.le
