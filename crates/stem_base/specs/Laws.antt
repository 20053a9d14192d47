-- Mirror. What the base is good for, and that a table has one.
use Rattle.std.specs.Prelude.{◌≡◌, ◌≢◌, ℕ, ◌<◌, ◌≤◌, ◌↔◌, Bool, true, List, length}
use Rattle.kaba_bits.specs.Sets.{bit, row, size, IsSubset}
use Rattle.stem_base.specs.Base.{Sides, HoldsIn, IsClosedUnder, common, IsBaseOf, IsPseudo, IsStemBase, AreMoreStems}

-- the closure of P has exactly the columns that each row with all of P has
abbrev pub ClosesAsSaid : Type 0
ClosesAsSaid = (T : List (List Bool)) (w : ℕ) → (P : List Bool) (c : ℕ) → c < w → ((bit (common T w P) c ≡ true)
    ↔ ((r : ℕ) → r < length T → IsSubset P (row T r) → bit (row T r) c ≡ true))

-- the definition of pseudo-closed, read without the count of steps
abbrev pub ReadsAsSaid : Type 0
ReadsAsSaid = (T : List (List Bool)) (w : ℕ) → (P : List Bool) → (IsPseudo w (common T w) P ↔
    ((length P ≡ w) × (P ≢ common T w P) × ((Q : List Bool) → IsPseudo w (common T w) Q → IsSubset Q P → size Q < size P → IsSubset (common T w Q) P)))

-- the implications of the stem base are a base
abbrev pub AreABase : Type 0
AreABase = (T : List (List Bool)) (w : ℕ) → (base : List Sides) → IsStemBase w (common T w) base → IsBaseOf T w base

-- each implication that holds follows: a set closed under the base is closed under it
abbrev pub AllFollow : Type 0
AllFollow = (T : List (List Bool)) (w : ℕ) → (base : List Sides) → IsStemBase w (common T w) base → (r : Sides) → length r.1 ≡ w → HoldsIn T r
    → (X : List Bool) → length X ≡ w → IsClosedUnder base X → IsSubset r.0 X → IsSubset r.1 X

-- no list with these properties is shorter
abbrev pub NoneShorter : Type 0
NoneShorter = (T : List (List Bool)) (w : ℕ) → (base L : List Sides) → IsStemBase w (common T w) base → IsBaseOf T w L
    → length base ≤ length L

-- a table has one stem base
abbrev pub OneBase : Type 0
OneBase = (T : List (List Bool)) (w : ℕ) → (xs ys : List Sides) → IsStemBase w (common T w) xs → IsStemBase w (common T w) ys → xs ≡ ys

-- and where it has no more implications than a bound, there are not more
abbrev pub NeverBoth : Type 0
NeverBoth = (T : List (List Bool)) (w bound : ℕ) → (xs : List Sides) → IsStemBase w (common T w) xs → length xs ≤ bound
    → AreMoreStems w (common T w) bound → ⊥
