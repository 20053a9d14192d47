-- Mirror. What the obligations ask of the facts, the sets and the table, and what they ask of a hierarchy.
use Rattle.std.specs.Prelude.{◌≡◌, ℕ, Bool, true, Option, Some}

-- what the facts, the sets and the table say
pub record Given : Type 0 where
  -- a class or interface is at or below another
  pub below : ℕ → ℕ → Bool
  -- the class that has a column, whether the column is a body, and its slot
  pub class_of : ℕ → ℕ
  pub is_body : ℕ → Bool
  pub slot_of : ℕ → Option ℕ
  -- whether a number is that of a row, and the class that the row types
  pub is_row : ℕ → Bool
  pub row_class : ℕ → ℕ
  -- the row of a site, and the class that the site creates
  pub site_row : ℕ → ℕ
  pub site_class : ℕ → ℕ
  -- a row has a column; a tie of a lower and an upper row; a site in the set of a row
  pub has : ℕ → ℕ → Bool
  pub tie : ℕ → ℕ → Bool
  pub in_row : ℕ → ℕ → Bool
  -- a site, a slot, and the body that an object of the site runs for it
  pub needs : ℕ → ℕ → ℕ → Bool
  -- a super call: the row of the caller's `this`, and the body that runs
  pub runs : ℕ → ℕ → Bool
  -- a site that meets a test or a store into an array, and the target's row
  pub meets : ℕ → ℕ → Bool

-- a hierarchy: the order of its nodes, the node of each column but the dead ones, and that of each row
pub record Shape : Type 0 where
  pub le : ℕ → ℕ → Bool
  pub column : ℕ → Option ℕ
  pub row : ℕ → ℕ

-- a node offers what stands at it or above it
pub record OffersColumn (S : Shape) (n c : ℕ) : Type 0 where
  pub at : ℕ
  pub stands : S.column c ≡ Some at
  pub above : S.le n at ≡ true
