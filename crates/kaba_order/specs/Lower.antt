-- Mirror. Sets that have for each node of an order those at or below it, and may have others.
use Rattle.std.specs.Prelude.{◌≡◌, ℕ, ◌<◌, Bool, true, List, length}
use Rattle.kaba_bits.specs.Sets.{bit, row, HasWidth}
use Rattle.kaba_order.specs.Orders.{Ordered, IsPartialOrder, AreAsWide}

-- the set at each place has the numbers of all rows that have that of the place
pub record AreLower (le lower : List (List Bool)) : Type 0 where
  pub len : length lower ≡ length le
  pub widths : HasWidth (length le) lower
  pub covers : (a b : ℕ) → b < length le → bit (row le a) b ≡ true → bit (row lower b) a ≡ true

-- a partial order, with such sets
pub record IsStored (o : Ordered) (lower : List (List Bool)) : Type 0 where
  pub order : IsPartialOrder o
  pub hints : AreLower o.le lower

-- sets that have what they had, and that at b has a where Q says so
pub record HaveGained (Q : ℕ → ℕ → Type 0) (old new : List (List Bool)) : Type 0 where
  pub size : AreAsWide old new
  pub grows : (a b : ℕ) → bit (row old b) a ≡ true → bit (row new b) a ≡ true
  pub added : (a b : ℕ) → b < length old → Q a b → bit (row new b) a ≡ true
