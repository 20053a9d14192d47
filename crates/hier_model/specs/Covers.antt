-- Believed. What stands strictly above a node of an order, and its upper covers.
use Rattle.std.specs.Prelude.{ℕ, ◌==◌, ◌&&◌, Bool, not, length}
use Rattle.kaba_order.specs.Orders.{Ordered, is_le}
use Rattle.hier_model.specs.Hierarchies.{any_below}

-- whether b is strictly above a
abbrev pub is_above : Ordered → ℕ → ℕ → Bool
is_above o a b = is_le o a b && not (a == b)

-- whether b is an upper cover of a: strictly above it, and none is strictly between
abbrev pub is_cover : Ordered → ℕ → ℕ → Bool
is_cover o a b = is_above o a b && not (any_below (length o.live) (λ k. is_above o a k && is_above o k b))
