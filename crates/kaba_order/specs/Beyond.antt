-- Mirror. The nodes that are no upper covers of a node, since another lies between.
use Rattle.std.specs.Prelude.{◌≡◌, ℕ, ◌<◌, ◌↔◌, true, List, Bool, length}
use Rattle.kaba_bits.specs.Sets.{bit}
use Rattle.kaba_order.specs.Orders.{Ordered, IsStrictlyBelow}

-- a number below m that lies strictly between two nodes
pub record LiesBetween (o : Ordered) (n m b : ℕ) : Type 0 where
  pub at : ℕ
  pub below : at < m
  pub up : IsStrictlyBelow o n at
  pub down : IsStrictlyBelow o at b

-- the set of the nodes above n such that a number below m lies strictly between
pub record IsBeyond (o : Ordered) (n m : ℕ) (set : List Bool) : Type 0 where
  pub exact : (b : ℕ) → ((bit set b ≡ true) ↔ LiesBetween o n m b)

-- all that is strictly above a node is in the set
abbrev pub IsPassed : Ordered → ℕ → List Bool → Type 0
IsPassed o k set = (b : ℕ) → IsStrictlyBelow o k b → bit set b ≡ true

-- some of the nodes above n with another strictly between, and with each all that is strictly above it
pub record AreSomeBeyond (o : Ordered) (n : ℕ) (set : List Bool) : Type 0 where
  pub found : (b : ℕ) → bit set b ≡ true → LiesBetween o n (length o.live) b
  pub closed : (k : ℕ) → bit set k ≡ true → IsPassed o k set
