-- Mirror. The classes at or above the class of each column.
use Rattle.std.specs.Prelude.{◌≡◌, ℕ, ◌<◌, Bool, List, length}
use Rattle.kaba_bits.specs.Sets.{row}
use Rattle.fact_model.specs.declared.facts.Facts.{Facts}
use Rattle.fact_model.specs.Items.{column_at}
use Rattle.points_to.specs.Above.{IsAboveRow}

-- the rows of the first n columns have the classes at or above that of the column
pub record AreAbove (F : Facts) (n : ℕ) (rows : List (List Bool)) : Type 0 where
  pub len : length rows ≡ n
  pub each : (d : ℕ) → d < n → IsAboveRow F (column_at F d).class.0 (row rows d)
