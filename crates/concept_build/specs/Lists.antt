-- Mirror. Lists of concepts in their order, and what the call answers.
use Rattle.std.specs.Prelude.{◌≡◌, ℕ, ◌<◌, ◌≤◌, Bool, true, false, List, [], ◌∷◌, ◌++◌, length, map, slice_index_or, All, AllPairs, Contains, Option, MatchOption}
use Rattle.std.specs.Bool.{MatchBool}
use Rattle.std.specs.declared.vec.Vec.{Vec}
use Rattle.std.specs.declared.alloc.Global.{Global}
use Rattle.std.specs.declared.cmp.Ordering.TheVariants.{Less}
use Rattle.kaba_bits.specs.Sets.{bit, row, rising, IsSubset}
use Rattle.fact_model.specs.Concepts.{Pair, concept_cmp, IsConcept, AreMoreThan, IsStrictSubset}
use Rattle.concept_build.specs.declared.LatticeFault.{LatticeFault}
use Rattle.concept_build.specs.declared.LatticeFault.TheVariants.{TooManyConcepts, Memory}
use Rattle.concept_build.specs.Tables.{IsMeet, IsNoMore}

-- why there is no lattice: more concepts than the bound; want of memory comes at any time
abbrev pub IsFaultOf : List (List Bool) → ℕ → ℕ → LatticeFault → Type 0
IsFaultOf T w bound (TooManyConcepts b) = (b ≡ bound) × AreMoreThan T w bound
IsFaultOf T w bound Memory = Unit {0}

-- one concept comes before another
abbrev pub IsBefore : Pair → Pair → Type 0
IsBefore k l = concept_cmp k l ≡ Less

-- the lists of columns in a set of them
abbrev pub lists_of : List (Vec ℕ Global) → List (List ℕ)
lists_of keys = map (λ v. v.items) keys

-- the columns of each concept, rising
abbrev pub columns_of : List Pair → List (List ℕ)
columns_of xs = map (λ k. rising k.1) xs

-- no two lists are the same
abbrev pub AreDifferent : List (List ℕ) → Type 0
AreDifferent xs = AllPairs (λ a b. a ≡ b → ⊥) xs

-- a list was not there and is now the last, or it was there and nothing changed
abbrev pub IsAddition : List (List ℕ) → List ℕ → List (List ℕ) → Bool → Type 0
IsAddition old x new added = MatchBool added ((new ≡ old ++ x ∷ []) × (Contains old x → ⊥)) ((new ≡ old) × Contains old x)

-- where a list stands, if it is there
abbrev pub IsListFound : List (List ℕ) → List ℕ → Option ℕ → Type 0
IsListFound xs x r = MatchOption r (Contains xs x → ⊥) (λ i. (i < length xs) × (slice_index_or xs i [] ≡ x))

-- the pair at a place; past the end of the list two empty sets
abbrev pub pair_at : List Pair → ℕ → Pair
pair_at xs k = slice_index_or xs k ([], [])

-- different concepts, and the lists of their columns
pub record AreConceptsFound (T : List (List Bool)) (w : ℕ) (xs : List Pair) (keys : List (List ℕ)) : Type 0 where
  pub each : All (λ k. IsConcept T w k.0 k.1) xs
  pub differ : AreDifferent (columns_of xs)
  pub listed : keys ≡ columns_of xs

-- what was in the list is in its place
pub record GrowsList (old new : List Pair) : Type 0 where
  pub len : length old ≤ length new
  pub same : (k : ℕ) → k < length old → pair_at new k ≡ pair_at old k

-- some intent of the list is the intersection of B and R
abbrev pub HasMeet : List Pair → List Bool → List Bool → Type 0
HasMeet xs B R = (j : ℕ) × (j < length xs) × IsMeet (pair_at xs j).1 B R

-- some concept of the list has the columns of B that a row has too, where A lacks that row and r has no more of B
pub record IsNextConcept (T : List (List Bool)) (A B : List Bool) (xs : List Pair) (r : ℕ) : Type 0 where
  pub q : ℕ
  pub below : q < length T
  pub lacks : bit A q ≡ false
  pub more : IsNoMore B (row T r) (row T q)
  pub has : HasMeet xs B (row T q)

-- for each row that the extent at k lacks there is such a concept
abbrev pub AreNext : List (List Bool) → List Pair → ℕ → Type 0
AreNext T xs k = (r : ℕ) → r < length T → bit (pair_at xs k).0 r ≡ false → IsNextConcept T (pair_at xs k).0 (pair_at xs k).1 xs r

-- the extents of a list of concepts
abbrev pub extents_of : List Pair → List (List Bool)
extents_of xs = map (λ k. k.0) xs

-- at i stands the least extent that has the rows of the extent at k, and the row q
pub record IsClosure (extents : List (List Bool)) (k q i : ℕ) : Type 0 where
  pub below : i < length extents
  pub holds : IsSubset (row extents k) (row extents i)
  pub has : bit (row extents i) q ≡ true
  pub least : (j : ℕ) → j < length extents → IsSubset (row extents k) (row extents j) → bit (row extents j) q ≡ true → IsSubset (row extents i) (row extents j)

-- numbers of extents above that at k, and for each of the first n rows that it lacks one that is within each extent that is above that at k and has the row
pub record AreCandidates (extents : List (List Bool)) (k n : ℕ) (numbers : List ℕ) : Type 0 where
  pub below : All (λ i. i < length extents) numbers
  pub above : All (λ i. IsStrictSubset (row extents k) (row extents i)) numbers
  pub each : (q : ℕ) → q < n → bit (row extents k) q ≡ false → (i : ℕ) × Contains numbers i × ((j : ℕ) → j < length extents
      → IsSubset (row extents k) (row extents j) → bit (row extents j) q ≡ true → IsSubset (row extents i) (row extents j))

-- no extent of the list is strictly within that at j
abbrev pub IsLeast : List (List Bool) → List ℕ → ℕ → Type 0
IsLeast extents numbers j = All (λ i. IsStrictSubset (row extents i) (row extents j) → ⊥) numbers
