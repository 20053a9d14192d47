-- Lists by place: what stands where after a change.
use Rattle.std.proofs.Common.{◌≡◌, ℕ, zero, suc, List, [], ◌∷◌, Some, refl, ap, ⊎_elim, inl, inr}
use Rattle.std.specs.Prelude.{◌⊎◌, slice_get, slice_set}
use Rattle.std.proofs.lemmas.Option.{same_Some}

-- what stands at k after a change at i: the new one, or what stood there
pub set_cases : {A : Type 0} (xs : List A) (i k : ℕ) (u v : A) → slice_get (slice_set xs i u) k ≡ Some v → ((i ≡ k) × (u ≡ v)) ⊎ (slice_get xs k ≡ Some v)
set_cases [] i k u v e = inr e
set_cases (x ∷ xs) zero zero u v e = inl (refl, same_Some u v e)
set_cases (x ∷ xs) zero (suc k) u v e = inr e
set_cases (x ∷ xs) (suc i) zero u v e = inr e
set_cases (x ∷ xs) (suc i) (suc k) u v e = ⊎_elim (λ p. inl (ap suc p.0, p.1)) (λ p. inr p) (set_cases xs i k u v e)

-- what stood at k still stands, or the new one does in its place
pub set_stays : {A : Type 0} (xs : List A) (i k : ℕ) (u v : A) → slice_get xs k ≡ Some v → (slice_get (slice_set xs i u) k ≡ Some v)
    ⊎ ((i ≡ k) × (slice_get (slice_set xs i u) k ≡ Some u))
set_stays [] i k u v e = inl e
set_stays (x ∷ xs) zero zero u v e = inr (refl, refl)
set_stays (x ∷ xs) zero (suc k) u v e = inl e
set_stays (x ∷ xs) (suc i) zero u v e = inl e
set_stays (x ∷ xs) (suc i) (suc k) u v e = ⊎_elim (λ p. inl p) (λ p. inr (ap suc p.0, p.1)) (set_stays xs i k u v e)
