-- Mirror. Rows of bits: the values of a test of two numbers, and for each type the types at or below it.
use Rattle.std.specs.Prelude.{◌≡◌, ℕ, ◌<◌, ◌⊎◌, ◌&&◌, ◌==◌, Bool, true, false, List, [], ◌∷◌, length, map, Option, Some, None, slice_get, if◌then◌else◌}
use Rattle.std.specs.List.{range_with_len}
use Rattle.kaba_bits.specs.Sets.{bit, row}

-- the values of a test of two numbers below n: a row for each first number, a bit for each second
unfoldable pub square : ℕ → (ℕ → ℕ → Bool) → List (List Bool)
square n f = map (λ a. map (λ b. f a b) (range_with_len 0 n)) (range_with_len 0 n)

-- the bit that was found; one that is not there is false
abbrev pub bit_in : Option Bool → Bool
bit_in None = false
bit_in (Some b) = b

-- the bit of a row that was found; a row that is not there has no true bit
abbrev pub row_in : Option (List Bool) → ℕ → Bool
row_in None b = false
row_in (Some row) b = bit_in (slice_get row b)

-- whether b is at or above a
abbrev pub is_above : List (List Bool) → ℕ → ℕ → Bool
is_above rows a b = row_in (slice_get rows a) b

-- whether some type is at or below both
abbrev pub meet : List (List Bool) → ℕ → ℕ → Bool
meet [] a b = false
meet (row ∷ rows) a b = if bit_in (slice_get row a) && bit_in (slice_get row b) then true else meet rows a b

-- whether a is at or below b, whose row this is; the row of a type with no other below it is empty
abbrev pub in_row : List Bool → ℕ → ℕ → Bool
in_row [] a b = a == b
in_row (x ∷ xs) a b = bit (x ∷ xs) a

-- whether the rows of bits say that class a is at or below class b
abbrev pub is_below : List (List Bool) → ℕ → ℕ → Bool
is_below rows a b = in_row (row rows b) a b

-- each row is empty or has n bits, and each type is at or below itself
pub record AreRows (n : ℕ) (rows : List (List Bool)) : Type 0 where
  pub wide : (k : ℕ) → (length (row rows k) ≡ 0) ⊎ (length (row rows k) ≡ n)
  pub own : (k : ℕ) → k < n → is_below rows k k ≡ true
