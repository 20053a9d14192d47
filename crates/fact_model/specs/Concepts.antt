-- Believed. The concept lattice of a table (Ganter and Wille, 1999). A table is its rows, each a set of columns below
-- the width w.
use Rattle.std.specs.Prelude.{◌≡◌, ℕ, ◌<◌, ◌↔◌, Bool, true, List, length, map, slice_index_or, All, AllPairs}
use Rattle.std.specs.declared.cmp.Ordering.{Ordering}
use Rattle.std.specs.declared.cmp.Ordering.TheVariants.{Less}
use Rattle.std.specs.Ordering.{nat_cmp, on, then_cmp, flip_args}
use Rattle.std.specs.Cmp.Lexicographic.{slice_cmp}
use Rattle.kaba_bits.specs.Sets.{bit, row, size, IsSubset, rising, ListsBelow}
use Rattle.fact_model.specs.declared.sets.Concept.{Concept}
use Rattle.fact_model.specs.declared.sets.Lattice.{Lattice}
use Rattle.fact_model.specs.declared.sets.Table.{Table}

-- the set of rows A is exactly those that have all columns of B
pub record IsExtent (T : List (List Bool)) (A B : List Bool) : Type 0 where
  pub len : length A ≡ length T
  pub rows : (r : ℕ) → r < length T → ((bit A r ≡ true) ↔ IsSubset B (row T r))

-- the set of columns B is exactly those that all rows of A have
pub record IsIntent (T : List (List Bool)) (w : ℕ) (A B : List Bool) : Type 0 where
  pub len : length B ≡ w
  pub columns : (c : ℕ) → c < w → ((bit B c ≡ true) ↔ ((r : ℕ) → r < length T → bit A r ≡ true → bit (row T r) c ≡ true))

-- a concept: a set of rows and a set of columns, each the set of all that are common to the other
pub record IsConcept (T : List (List Bool)) (w : ℕ) (A B : List Bool) : Type 0 where
  pub extent : IsExtent T A B
  pub intent : IsIntent T w A B

-- an extent and an intent
abbrev pub Pair : Type 0
Pair = List Bool × List Bool

-- the extent and the intent of a concept
abbrev pub pair_of : Concept → Pair
pair_of k = (k.extent, k.intent)

-- the order of concepts: by falling size of extent, then by intent, compared as rising lists of column numbers
abbrev pub concept_cmp : Pair → Pair → Ordering
concept_cmp = then_cmp (flip_args (on (λ (k : Pair). size k.0) nat_cmp)) (on (λ (k : Pair). rising k.1) (slice_cmp nat_cmp))

-- different concepts of a table, in order
pub record AreConcepts (T : List (List Bool)) (w : ℕ) (xs : List Pair) : Type 0 where
  pub each : All (λ k. IsConcept T w k.0 k.1) xs
  pub ordered : AllPairs (λ k l. concept_cmp k l ≡ Less) xs

-- there are more concepts than a bound
pub record AreMoreThan (T : List (List Bool)) (w bound : ℕ) : Type 0 where
  pub list : List Pair
  pub concepts : AreConcepts T w list
  pub more : bound < length list

-- some concept of the list has this intent
pub record HasIntent (xs : List Pair) (B : List Bool) : Type 0 where
  pub at : ℕ
  pub below : at < length xs
  pub is : (d : Pair) → (slice_index_or xs at d).1 ≡ B

-- every concept of a table, each once and in order
pub record AreAllConcepts (T : List (List Bool)) (w : ℕ) (xs : List Pair) : Type 0 where
  pub concepts : AreConcepts T w xs
  pub complete : (A B : List Bool) → IsConcept T w A B → HasIntent xs B

-- a set is strictly within another
abbrev pub IsStrictSubset : List Bool → List Bool → Type 0
IsStrictSubset a b = (size a < size b) × IsSubset a b

-- the extent at b is strictly above that at a, and none is between
pub record IsUpperCover (extents : List (List Bool)) (a b : ℕ) : Type 0 where
  pub above : IsStrictSubset (row extents a) (row extents b)
  pub none : (k : ℕ) → k < length extents → IsStrictSubset (row extents a) (row extents k) → IsStrictSubset (row extents k) (row extents b) → ⊥

-- a row stands at the concept whose intent is the set of its columns
abbrev pub RowStands : List (List Bool) → List Bool → ℕ → Type 0
RowStands T B r = IsSubset (row T r) B × IsSubset B (row T r)

-- a column that some row has stands at the concept whose extent is the set of the rows that have it; a dead column stands nowhere
pub record ColumnStands (T : List (List Bool)) (A : List Bool) (c : ℕ) : Type 0 where
  pub live : (r : ℕ) × (r < length T) × (bit (row T r) c ≡ true)
  pub rows : (r : ℕ) → r < length T → ((bit A r ≡ true) ↔ (bit (row T r) c ≡ true))

-- what is told of the concept at k beside its two sets: its upper covers, and the rows and columns that stand there, each list rising
pub record IsConceptPlaced (T : List (List Bool)) (w : ℕ) (extents : List (List Bool)) (k : ℕ) (x : Concept) : Type 0 where
  pub above : ListsBelow (IsUpperCover extents k) (length extents) x.above.items
  pub rows : ListsBelow (RowStands T x.intent) (length T) (map (λ r. r.0) x.rows.items)
  pub columns : ListsBelow (ColumnStands T x.extent) w (map (λ c. c.0) x.columns.items)

-- the concept lattice of a table
pub record IsLattice (T : List (List Bool)) (w : ℕ) (xs : List Concept) : Type 0 where
  pub all : AreAllConcepts T w (map pair_of xs)
  pub placed : (k : ℕ) (d : Concept) → k < length xs → IsConceptPlaced T w (map (λ x. x.extent) xs) k (slice_index_or xs k d)

-- the same of the types of the program
abbrev pub IsLatticeOf : Table → Lattice → Type 0
IsLatticeOf t l = IsLattice t.rows.items t.width l.concepts.items
