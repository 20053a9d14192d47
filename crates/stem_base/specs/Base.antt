-- Believed. The least base of implications of a table (Duquenne and Guigues, 1986). A set of columns is a list of truth
-- values, of the table's width w. A table is its rows.
use Rattle.std.specs.Prelude.{◌≡◌, ◌≢◌, ℕ, suc, zero, ◌<◌, ◌↔◌, Bool, true, false, ◌&&◌, List, [], ◌∷◌, length, map, All, AllPairs, Contains}
use Rattle.std.specs.declared.cmp.Ordering.{Ordering}
use Rattle.std.specs.declared.cmp.Ordering.TheVariants.{Less}
use Rattle.std.specs.Ordering.{nat_cmp, on, then_cmp}
use Rattle.std.specs.Cmp.Lexicographic.{slice_cmp}
use Rattle.kaba_bits.specs.Sets.{row, size, rising, IsSubset}
use Rattle.fact_model.specs.declared.sets.Table.{Table}
use Rattle.stem_base.specs.declared.implications.Implication.{Implication}

-- an implication: where all of the first set is, all of the second is
abbrev pub Sides : Type 0
Sides = List Bool × List Bool

-- the same of the program's implications, and of a list of them
abbrev pub sides_of : Implication → Sides
sides_of x = (x.left, x.right)

abbrev pub all_sides : List Implication → List Sides
all_sides xs = map sides_of xs

-- an implication holds in a table: each row that has all of its left side has all of its right side
abbrev pub HoldsIn : List (List Bool) → Sides → Type 0
HoldsIn T r = (k : ℕ) → k < length T → IsSubset r.0 (row T k) → IsSubset r.1 (row T k)

-- a set is closed under an implication, and under a list of them
abbrev pub Respects : List Bool → Sides → Type 0
Respects X r = IsSubset r.0 X → IsSubset r.1 X

abbrev pub IsClosedUnder : List Sides → List Bool → Type 0
IsClosedUnder L X = All (Respects X) L

-- whether each number of a set is in another
abbrev pub is_subset : List Bool → List Bool → Bool
is_subset [] b = true
is_subset (true ∷ a) [] = false
is_subset (false ∷ a) [] = is_subset a []
is_subset (true ∷ a) (x ∷ b) = x && is_subset a b
is_subset (false ∷ a) (x ∷ b) = is_subset a b

-- the numbers of a set that are in another, and all numbers below w
abbrev pub in_both : List Bool → List Bool → List Bool
in_both [] b = []
in_both (x ∷ a) [] = false ∷ in_both a []
in_both (x ∷ a) (y ∷ b) = (x && y) ∷ in_both a b

abbrev pub all_below : ℕ → List Bool
all_below zero = []
all_below (suc w) = true ∷ all_below w

-- P'': the columns common to the rows that have all of P
abbrev pub common : List (List Bool) → ℕ → List Bool → List Bool
common [] w P = all_below w
common (R ∷ T) w P = elim (is_subset P R) [ true ↦ in_both (common T w P) R | false ↦ common T w P ]

-- a base of the implications of a table: its right sides are sets of columns, each implication holds, and under them only the sets that are their own
-- closure are closed
pub record IsBaseOf (T : List (List Bool)) (w : ℕ) (L : List Sides) : Type 0 where
  pub wide : All (λ r. length r.1 ≡ w) L
  pub holds : All (HoldsIn T) L
  pub closed : (X : List Bool) → length X ≡ w → (IsClosedUnder L X ↔ (X ≡ common T w X))

-- P is pseudo-closed, as far as n steps of the recursion tell: P differs from its closure, and holds the closure of each
-- pseudo-closed proper subset
abbrev pub IsPseudoIn : ℕ → ℕ → (List Bool → List Bool) → List Bool → Type 0
IsPseudoIn zero w cl P = ⊥
IsPseudoIn (suc n) w cl P = (length P ≡ w) × (P ≢ cl P) × ((Q : List Bool) → IsPseudoIn n w cl Q → IsSubset Q P → size Q < size P → IsSubset (cl Q) P)

-- no set of the width has more than w numbers, so that suc w steps tell all
abbrev pub IsPseudo : ℕ → (List Bool → List Bool) → List Bool → Type 0
IsPseudo w cl P = IsPseudoIn (suc w) w cl P

-- the order of the base: by rising size of the left side, then by its numbers as rising lists
abbrev pub implication_cmp : Sides → Sides → Ordering
implication_cmp = then_cmp (on (λ (r : Sides). size r.0) nat_cmp) (on (λ (r : Sides). rising r.0) (slice_cmp nat_cmp))

-- P -> P'' for different pseudo-closed sets P, in order
pub record AreStems (w : ℕ) (cl : List Bool → List Bool) (base : List Sides) : Type 0 where
  pub each : All (λ r. IsPseudo w cl r.0 × (r.1 ≡ cl r.0)) base
  pub ordered : AllPairs (λ a b. implication_cmp a b ≡ Less) base

-- and for each pseudo-closed set
pub record IsStemBase (w : ℕ) (cl : List Bool → List Bool) (base : List Sides) : Type 0 where
  pub stems : AreStems w cl base
  pub complete : (P : List Bool) → IsPseudo w cl P → Contains base (P, cl P)

-- there are more than a bound
pub record AreMoreStems (w : ℕ) (cl : List Bool → List Bool) (bound : ℕ) : Type 0 where
  pub list : List Sides
  pub stems : AreStems w cl list
  pub more : bound < length list

-- the same of the types of the program
abbrev pub IsStemBaseOf : Table → List Implication → Type 0
IsStemBaseOf t xs = IsStemBase t.width (common t.rows.items t.width) (all_sides xs)
