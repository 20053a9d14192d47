-- Mirror. What rows of bits that are made of pairs are.
use Rattle.std.specs.Prelude.{◌≡◌, ℕ, Bool, List, length}
use Rattle.kaba_bits.specs.Sets.{bit, row, HasWidth}

-- so many rows of this width, which have the pairs that pass a test
pub record ArePairRows (count width : ℕ) (are : ℕ → ℕ → Bool) (rows : List (List Bool)) : Type 0 where
  pub len : length rows ≡ count
  pub widths : HasWidth width rows
  pub exact : (a b : ℕ) → bit (row rows a) b ≡ are a b

-- one of these rows
pub record IsPairsRow (width : ℕ) (are : ℕ → Bool) (numbers : List Bool) : Type 0 where
  pub width_is : length numbers ≡ width
  pub exact : (b : ℕ) → bit numbers b ≡ are b
