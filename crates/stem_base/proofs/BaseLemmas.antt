-- What is found, sorted, is the base, or more than the bound.
use Rattle.std.proofs.Common.{◌≡◌, ℕ, ◌<◌, ◌≤◌, Bool, List, length, All, AllPairs, arith}
use Rattle.std.specs.declared.cmp.Ordering.TheVariants.{Less}
use Rattle.std.specs.List.Sorted.{IsPermutation}
use Rattle.std.proofs.lemmas.List.Sorted.{All-permutation, Contains-permutation, length_permutation}
use Rattle.stem_base.specs.Base.{Sides, IsPseudo, implication_cmp, AreStems, IsStemBase, AreMoreStems}
use Rattle.stem_base.specs.Found.{AreStemsFound}

module _ (w : ℕ) (cl : List Bool → List Bool) (bound : ℕ) (xs zs : List Sides) (found : AreStemsFound w cl bound xs) (same : IsPermutation xs zs)
    (ordered : AllPairs (λ a b. implication_cmp a b ≡ Less) zs) where
  stems : AreStems w cl zs
  stems = record { each = All-permutation (λ r. IsPseudo w cl r.0 × (r.1 ≡ cl r.0)) xs zs same found.each; ordered = ordered }

  pub is_base : length zs ≤ bound → IsStemBase w cl zs
  is_base le = record {
    stems = stems;
    complete = λ P p. Contains-permutation xs zs (P, cl P) same (found.complete (omega (arith, le, length_permutation xs zs same)) P p);
  }

  pub are_more : bound < length zs → AreMoreStems w cl bound
  are_more lt = record { list = zs; stems = stems; more = lt }

pub found_wide : (w : ℕ) (cl : List Bool → List Bool) (bound : ℕ) (xs : List Sides) → AreStemsFound w cl bound xs → (v : ℕ) × All (λ r. length r.0 ≡ v) xs
found_wide w cl bound xs f = (w, λ k d lt. (f.each k d lt).0.0)
