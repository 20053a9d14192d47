-- A test that tells a base, and a worked table.
use Rattle.std.specs.Prelude.{ℕ, zero, suc, Bool, true, false, ◌&&◌, ◌||◌, not, nat_lt, List, [], ◌∷◌}
use Rattle.kaba_bits.specs.Sets.{size}
use Rattle.stem_base.specs.Base.{Sides, is_subset, common}

-- whether two sets have the same numbers
abbrev pub same_set : List Bool → List Bool → Bool
same_set a b = is_subset a b && is_subset b a

-- whether a set is the left side of an implication of the list
abbrev pub is_listed : List Sides → List Bool → Bool
is_listed [] P = false
is_listed (r ∷ rs) P = same_set r.0 P || is_listed rs P

-- whether it holds the right sides of those whose left sides are strictly within it
abbrev pub holds_lesser : List Sides → List Bool → Bool
holds_lesser [] P = true
holds_lesser (r ∷ rs) P = (not (is_subset r.0 P && nat_lt (size r.0) (size P)) || is_subset r.1 P) && holds_lesser rs P

abbrev pub is_stem_by : List (List Bool) → ℕ → List Sides → List Bool → Bool
is_stem_by T w base P = not (same_set P (common T w P)) && holds_lesser base P

abbrev pub same_truth : Bool → Bool → Bool
same_truth true b = b
same_truth false b = not b

-- a test of every set of a width
abbrev pub each_set : ℕ → (List Bool → Bool) → Bool
each_set zero p = p []
each_set (suc w) p = each_set w (λ X. p (false ∷ X)) && each_set w (λ X. p (true ∷ X))

-- exactly the sets that are stems by the list are its left sides
abbrev pub tells_base : List (List Bool) → ℕ → List Sides → Bool
tells_base T w base = each_set w (λ P. same_truth (is_listed base P) (is_stem_by T w base P))

-- four rows of five columns: {c0 c1 c2}, all, {c1}, all
abbrev pub table : List (List Bool)
table = (true ∷ true ∷ true ∷ false ∷ false ∷ []) ∷ (true ∷ true ∷ true ∷ true ∷ true ∷ []) ∷ (false ∷ true ∷ false ∷ false ∷ false ∷ [])
    ∷ (true ∷ true ∷ true ∷ true ∷ true ∷ []) ∷ []

abbrev pub stem_of : List Bool → Sides
stem_of P = (P, common table 5 P)

-- - -> c1, c0 c1 -> c2, c1 c2 -> c0, c1 c3 -> c0 c2 c4, c1 c4 -> c0 c2 c3
abbrev pub table_base : List Sides
table_base =
    stem_of (false ∷ false ∷ false ∷ false ∷ false ∷ []) ∷ stem_of (true ∷ true ∷ false ∷ false ∷ false ∷ [])
    ∷ stem_of (false ∷ true ∷ true ∷ false ∷ false ∷ [])
    ∷ stem_of (false ∷ true ∷ false ∷ true ∷ false ∷ []) ∷ stem_of (false ∷ true ∷ false ∷ false ∷ true ∷ []) ∷ []
