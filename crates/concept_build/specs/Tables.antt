-- Mirror. Intersections of rows of a table, and what is counted of its rows and columns.
use Rattle.std.specs.Prelude.{◌≡◌, ℕ, ◌<◌, ◌^◌, ◌↔◌, Bool, true, false, List, ◌&&◌, length, map, slice_index_or, All, Contains}
use Rattle.kaba_bits.specs.Sets.{bit, row, size, IsSubset, HasWidth}
use Rattle.concept_build.specs.declared.columns.Columns.{Columns}
use Rattle.concept_build.specs.declared.counts.Counts.{Counts}

-- all numbers below w
pub record IsFull (w : ℕ) (B : List Bool) : Type 0 where
  pub len : length B ≡ w
  pub bits : (c : ℕ) → c < w → bit B c ≡ true

-- what is in both sets
pub record IsMeet (B C R : List Bool) : Type 0 where
  pub len : length B ≡ length C
  pub bits : (c : ℕ) → bit B c ≡ (bit C c && bit R c)

-- every column that all rows with B have is in B
pub record IsClosedRow (T : List (List Bool)) (w : ℕ) (B : List Bool) : Type 0 where
  pub len : length B ≡ w
  pub columns : (c : ℕ) → c < w → ((r : ℕ) → r < length T → IsSubset B (row T r) → bit (row T r) c ≡ true) → bit B c ≡ true

-- the rows that have a column
abbrev pub column : List (List Bool) → ℕ → List Bool
column T c = map (λ r. bit r c) T

-- numbers of rows, and for each row of the table one with the same columns
pub record AreExamples (T : List (List Bool)) (xs : List ℕ) : Type 0 where
  pub below : All (λ q. q < length T) xs
  pub each : (r : ℕ) → r < length T → (q : ℕ) × Contains xs q × (row T q ≡ row T r)

-- the rows of a table with the numbers of a list
abbrev pub listed_rows : List (List Bool) → List ℕ → List (List Bool)
listed_rows T xs = map (row T) xs

-- for each column the set of the places in a list of rows that have it, and the set of all places
pub record AreColumnSets (R : List (List Bool)) (w : ℕ) (cs : Columns) : Type 0 where
  pub small : length R < 2 ^ 32
  pub len : length cs.sets.items ≡ w
  pub widths : HasWidth (length R) cs.sets.items
  pub bits : (c p : ℕ) → bit (row cs.sets.items c) p ≡ bit (row R p) c
  pub all : IsFull (length R) cs.all

-- exactly the places that have all columns of B
pub record HaveAllColumns (cs : Columns) (A B : List Bool) : Type 0 where
  pub len : length A ≡ length cs.all
  pub places : (p : ℕ) → ((bit A p ≡ true) ↔ ((bit cs.all p ≡ true) × ((c : ℕ) → bit B c ≡ true → bit (row cs.sets.items c) p ≡ true)))

-- how many columns each row has, the rows of each column and how many they are, and examples of the rows with their columns
pub record IsCounted (T : List (List Bool)) (w : ℕ) (c : Counts) : Type 0 where
  pub rows : c.rows.items ≡ map size T
  pub len : length c.columns.items ≡ w
  pub columns : (k d : ℕ) → k < w → slice_index_or c.columns.items k d ≡ size (column T k)
  pub extents : AreColumnSets T w c.extents
  pub examples : AreExamples T c.examples.items
  pub shares : AreColumnSets (listed_rows T c.examples.items) w c.shares

-- a row has no more columns of B than another
abbrev pub IsNoMore : List Bool → List Bool → List Bool → Type 0
IsNoMore B R S = (c : ℕ) → bit B c ≡ true → bit R c ≡ true → bit S c ≡ true

-- one of the rows of a list has no less of B than the row r
abbrev pub HasNear : List (List Bool) → List Bool → List ℕ → ℕ → Type 0
HasNear T B near r = (q : ℕ) × Contains near q × IsNoMore B (row T r) (row T q)

-- rows that A lacks, and for each row that it lacks one of them that has no less of B
pub record AreNear (T : List (List Bool)) (A B : List Bool) (near : List ℕ) : Type 0 where
  pub below : All (λ q. q < length T) near
  pub lacks : All (λ q. bit A q ≡ false) near
  pub each : (r : ℕ) → r < length T → bit A r ≡ false → HasNear T B near r

-- each column of B that the row R lacks is in a list
abbrev pub IsMissed : List Bool → List Bool → List ℕ → Type 0
IsMissed B R xs = (c : ℕ) → bit B c ≡ true → bit R c ≡ false → Contains xs c
