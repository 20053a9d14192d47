-- Whether some number below a bound passes a test.
use Rattle.std.proofs.Common.{◌≡◌, ℕ, suc, zero, ◌<◌, Bool, true, false, sym, ◌∙◌, subst, arith, ⊎_elim}
use Rattle.std.proofs.lemmas.Bool.{or_cases, or_left, or_right, false≢true, cases_Bool, cases_order}
use Rattle.hier_model.specs.Hierarchies.{any_below}

pub any_below_found : (p : ℕ → Bool) (n k : ℕ) → any_below k p ≡ false → k < n → p k ≡ true → any_below n p ≡ true
any_below_found p zero k none lt h = absurd (omega (arith, lt))
any_below_found p (suc n) k none lt h =
    ⊎_elim
    (λ here. or_right (any_below n p) (p n) (subst (λ j. p j ≡ true) here h))
    (⊎_elim (λ before. or_left (any_below n p) (p n) (any_below_found p n k none before h)) (λ after. absurd (omega (arith, lt, after))))
    (cases_order k n)

-- the number that passes
pub any_below_some : (p : ℕ → Bool) (n : ℕ) → any_below n p ≡ true → (k : ℕ) × (k < n) × (p k ≡ true)
any_below_some p zero h = absurd (false≢true h)
any_below_some p (suc n) h =
    ⊎_elim
    (λ before. let r = any_below_some p n before in (r.0, omega (arith, r.1), r.2))
    (λ here. (n, omega arith, here))
    (or_cases (any_below n p) (p n) h)

pub any_below_has : (p : ℕ → Bool) (n k : ℕ) → k < n → p k ≡ true → any_below n p ≡ true
any_below_has p zero k lt h = absurd (omega (arith, lt))
any_below_has p (suc n) k lt h =
    ⊎_elim
    (λ here. or_right (any_below n p) (p n) (subst (λ j. p j ≡ true) here h))
    (⊎_elim (λ before. or_left (any_below n p) (p n) (any_below_has p n k before h)) (λ after. absurd (omega (arith, lt, after))))
    (cases_order k n)

-- where none does
pub any_below_none : (p : ℕ → Bool) (n k : ℕ) → any_below n p ≡ false → k < n → p k ≡ false
any_below_none p n k h lt = ⊎_elim (λ t. absurd (false≢true (sym h ∙ any_below_has p n k lt t))) (λ f. f) (cases_Bool (p k))
